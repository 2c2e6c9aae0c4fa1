-- What a scene keeps while terms are made.
use Rattle.std.proofs.Common.{◌≡◌, ℕ, zero, suc, List, [], ◌∷◌, ◌++◌, sym, subst, slice_get, Some, None, Result, Ok, Err, OnOk, OnErr}
use Rattle.elm_base.specs.declared.memory.Halt.{Halt}
use Rattle.type_terms.specs.declared.no_solution.NoSolution.{NoSolution}
use Rattle.type_terms.specs.declared.node.Node.{Node}
use Rattle.type_terms.specs.Terms.{State, nodes_of, Each}
use Rattle.type_unify.specs.declared.rows.Tail.{Tail}
use Rattle.type_unify.specs.Kept.{Keeps}
use Rattle.type_unify.specs.Rests.{IsType}
use Rattle.type_unify.specs.Steps.{IsTail}
use Rattle.type_unify.specs.Unifying.{Unifies}
use Rattle.type_unify.proofs.Building.{kept_types}
use Rattle.type_unify.proofs.Standing.{each_append}
use Rattle.types_tests.specs.Scenes.{AreMade, EachTail}

kept_tails : (old new : List Node) (tails : List Tail) → Keeps old new → EachTail old tails → EachTail new tails
kept_tails old new [] k h = tt
kept_tails old new (tail ∷ tails) k h = (k.tails tail h.0, kept_tails old new tails k h.1)

tails_append : (nodes : List Node) (tails : List Tail) (tail : Tail) → EachTail nodes tails → IsTail nodes tail → EachTail nodes (tails ++ tail ∷ [])
tails_append nodes [] tail h t = (t, tt)
tails_append nodes (first ∷ tails) tail h t = (h.0, tails_append nodes tails tail h.1 t)

pub kept : (old new : List State) (made : List ℕ) (rests : List Tail) → AreMade old made rests → Keeps (nodes_of old) (nodes_of new) → AreMade new made rests
kept old new made rests m k = record { types = kept_types (nodes_of old) (nodes_of new) made k m.types; tails = kept_tails (nodes_of old) (nodes_of new) rests k m.tails }

pub more_types : (store : List State) (made made' : List ℕ) (rests : List Tail) (at : ℕ) → AreMade store made rests → IsType (nodes_of store) at → made' ≡ made ++ at ∷ [] → AreMade store made' rests
more_types store made made' rests at m t e =
    subst (λ (l : List ℕ). AreMade store l rests) (sym e) (record { types = each_append (IsType (nodes_of store)) made (at ∷ []) m.types (t, tt); tails = m.tails })

pub more_tails : (store : List State) (made : List ℕ) (rests rests' : List Tail) (tail : Tail) → AreMade store made rests → IsTail (nodes_of store) tail → rests' ≡ rests ++ tail ∷ [] → AreMade store made rests'
more_tails store made rests rests' tail m t e =
    subst (AreMade store made) (sym e) (record { types = m.types; tails = tails_append (nodes_of store) rests tail m.tails t })

-- unification keeps types, and there are no rests any more
pub only_types : (old new : List State) (made : List ℕ) (rests : List Tail) → AreMade old made rests → ((i : ℕ) → IsType (nodes_of old) i → IsType (nodes_of new) i) → AreMade new made []
only_types old new made rests m f = record { types = each_map made m.types; tails = tt }
  where
    each_map : (ks : List ℕ) → Each (IsType (nodes_of old)) ks → Each (IsType (nodes_of new)) ks
    each_map [] h = tt
    each_map (k ∷ ks) h = (f k h.0, each_map ks h.1)

pub tail_found : (nodes : List Node) (tails : List Tail) (at : ℕ) (tail : Tail) → EachTail nodes tails → slice_get tails at ≡ Some tail → IsTail nodes tail
tail_found nodes [] at tail h e = (let x : None ≡ Some tail = e in absurd (cc x))
tail_found nodes (first ∷ tails) zero tail h e = (let x : first ≡ tail = cc e in subst (IsTail nodes) x h.0)
tail_found nodes (first ∷ tails) (suc at) tail h e = tail_found nodes tails at tail h.1 e

pub unified : (r : Result (Unit {0}) (Halt NoSolution)) (old new : List State) (a b : ℕ) (made : List ℕ) (rests rests' : List Tail) → AreMade old made rests → OnOk r (Unifies (nodes_of old) (nodes_of new) a b) → OnErr r (new ≡ old) →
    rests' ≡ [] → AreMade new made rests'
unified (Ok done) old new a b made rests rests' m u same none = subst (AreMade new made) (sym none) (only_types old new made rests m u.types)
unified (Err halt) old new a b made rests rests' m u same none = subst (AreMade new made) (sym none) (only_types old new made rests m (λ i t. subst (λ (store : List State). IsType (nodes_of store) i) (sym same) t))

pub each_pushed : (nodes : List Node) (xs xs' : List ℕ) (x : ℕ) → Each (IsType nodes) xs → IsType nodes x → xs' ≡ xs ++ x ∷ [] → Each (IsType nodes) xs'
each_pushed nodes xs xs' x h t e = subst (Each (IsType nodes)) (sym e) (each_append (IsType nodes) xs (x ∷ []) h (t, tt))
