-- Definitions one after the other.
use Rattle.std.proofs.Common.{◌≡◌, ◌∙◌, ℕ, zero, suc, ◌+◌, ◌<◌, ◌≤◌, List, [], ◌∷◌, ◌++◌, length, map, take, get_or, Some, refl, sym, ap, subst, arith, add-one}
use Rattle.std.proofs.Math.Seq.{take-suc}
use Rattle.std.specs.Prelude.{slice_get}
use Rattle.elm_base.specs.declared.term.Term.{Term}
use Rattle.elm_base.specs.declared.term.TopValue.{TopValue}
use Rattle.elm_base.specs.declared.term.Code.{Code}
use Rattle.elm_meaning.specs.Lowered.{AllBelow, places_of, places_of_all, times, top_places}
use Rattle.core_definitions.specs.declared.one.CoreDefinition.{CoreDefinition}
use Rattle.code_lower.specs.Laying.{Lowers}
use Rattle.code_lower.specs.Whole.{IsSoFar, Grows, IsCodeOf, all_of, tree_of_definition, name_of_definition, name_of_top}
use Rattle.code_lower.proofs.Laying.{nothing_yet, joins, relabelled, below_front, times_append}

append_all : {A : Type 0} (xs ys zs : List A) → (xs ++ ys) ++ zs ≡ xs ++ (ys ++ zs)
append_all [] ys zs = refl
append_all (x ∷ xs) ys zs = ap (λ l. x ∷ l) (append_all xs ys zs)

append_none : {A : Type 0} (xs : List A) → xs ++ [] ≡ xs
append_none [] = refl
append_none (x ∷ xs) = ap (λ l. x ∷ l) (append_none xs)

map_behind : {A B : Type 0} (f : A → B) (xs : List A) (x : A) → map f (xs ++ x ∷ []) ≡ map f xs ++ f x ∷ []
map_behind f [] x = refl
map_behind f (y ∷ xs) x = ap (λ l. f y ∷ l) (map_behind f xs x)

take_more : {A : Type 0} (xs : List A) (i : ℕ) (x : A) → i < length xs → x ≡ get_or xs i x → take (i + 1) xs ≡ take i xs ++ x ∷ []
take_more xs i x lt is = ap (λ (k : ℕ). take k xs) (add-one i) ∙ take-suc xs i x lt ∙ ap (λ y. take i xs ++ y ∷ []) (sym is)

pub take_all : {A : Type 0} (i : ℕ) (xs : List A) → length xs ≤ i → take i xs ≡ xs
take_all zero [] h = refl
take_all (suc i) [] h = refl
take_all zero (x ∷ xs) h = absurd (omega (arith, h))
take_all (suc i) (x ∷ xs) h = ap (λ ys. x ∷ ys) (take_all i xs (omega (arith, h)))

all_behind : (gs : List (List CoreDefinition)) (g : List CoreDefinition) → all_of (gs ++ g ∷ []) ≡ all_of gs ++ g
all_behind [] g = append_none g
all_behind (h ∷ gs) g = ap (λ l. h ++ l) (all_behind gs g) ∙ sym (append_all h (all_of gs) g)

pub nothing_lowered : (code : Code) → code.terms ≡ [] → code.tops ≡ [] → IsSoFar [] code
nothing_lowered code terms tops = record {
  placed = subst (λ ts. Lowers [] ts (top_places code.tops) []) (sym terms) (subst (λ (l : List TopValue). Lowers [] [] (top_places l) []) (sym tops) (nothing_yet []));
  names = ap (map name_of_top) tops;
}

pub grows_nothing : (code : Code) → Grows [] code code
grows_nothing code ds so_far = subst (λ l. IsSoFar l code) (sym (append_none ds)) so_far

-- a definition more
pub definition_turn : (first old new : Code) (terms : List Term) (i : ℕ) (ds : List CoreDefinition) (d : CoreDefinition) (top : TopValue) → i < length ds → d ≡ get_or ds i d →
    Grows (take i ds) first old → Lowers old.terms terms (top.term ∷ []) (tree_of_definition d ∷ []) → name_of_top top ≡ name_of_definition d →
    new.terms ≡ terms → new.tops ≡ old.tops ++ top ∷ [] → Grows (take (i + 1) ds) first new
definition_turn first old new terms i ds d top lt is grows placed named same pushed before so_far =
    let here = grows before so_far in
    let all : before ++ take (i + 1) ds ≡ (before ++ take i ds) ++ d ∷ [] = ap (λ l. before ++ l) (take_more ds i d lt is) ∙ sym (append_all before (take i ds) (d ∷ [])) in
    let places : top_places new.tops ≡ top_places old.tops ++ top.term ∷ [] = ap top_places pushed ∙ map_behind (λ t. t.term) old.tops top in
    subst (λ l. IsSoFar l new) (sym all) (record {
      placed =
          subst (λ (ts : List Term). Lowers [] ts (top_places new.tops) (map tree_of_definition ((before ++ take i ds) ++ d ∷ []))) (sym same)
          (relabelled [] terms (top_places old.tops ++ top.term ∷ []) (top_places new.tops) (map tree_of_definition (before ++ take i ds) ++ tree_of_definition d ∷ []) (map tree_of_definition ((before ++ take i ds) ++ d ∷ []))
          (sym places) (sym (map_behind tree_of_definition (before ++ take i ds) d))
          (joins [] old.terms terms (top_places old.tops) (top.term ∷ []) (map tree_of_definition (before ++ take i ds)) (tree_of_definition d ∷ []) here.placed placed));
      names =
          ap (map name_of_top) pushed ∙ map_behind name_of_top old.tops top ∙ ap (λ l. l ++ name_of_top top ∷ []) here.names
          ∙ ap (λ x. map name_of_definition (before ++ take i ds) ++ x ∷ []) named ∙ sym (map_behind name_of_definition (before ++ take i ds) d);
    })

-- a group more
pub group_turn : (old new : Code) (i : ℕ) (gs : List (List CoreDefinition)) (g given : List CoreDefinition) → i < length gs → g ≡ get_or gs i g → given ≡ g →
    IsSoFar (all_of (take i gs)) old → Grows given old new → IsSoFar (all_of (take (i + 1) gs)) new
group_turn old new i gs g given lt is same here grows =
    subst (λ l. IsSoFar l new) (ap (λ l. all_of (take i gs) ++ l) same ∙ sym (ap all_of (take_more gs i g lt is) ∙ all_behind (take i gs) g)) (grows (all_of (take i gs)) here)

-- all of them are the code
pub is_code : (gs : List (List CoreDefinition)) (code : Code) → IsSoFar (all_of gs) code → IsCodeOf gs code
is_code gs code so_far =
    let p = so_far.placed in
    record {
      laid_out = record {
        lower = λ at t is. subst (λ (n : ℕ). AllBelow n (places_of t)) (omega arith) (p.lower at t (subst (λ (l : List Term). slice_get l at ≡ Some t) p.grown is));
        tops_stand = below_front (length code.terms) (top_places code.tops) (places_of_all p.added) p.below;
        once = λ place. counted place (times_append place (top_places code.tops) (places_of_all p.added)) (p.once place)
            (times_append place (places_of_all code.terms) (top_places code.tops)) (ap (λ l. times place (places_of_all l)) p.grown);
      };
      names = so_far.names;
      trees = p.are;
    }
  where
    counted : (place : ℕ) → times place (top_places code.tops ++ places_of_all so_far.placed.added) ≡ times place (top_places code.tops) + times place (places_of_all so_far.placed.added) →
        times place (top_places code.tops ++ places_of_all so_far.placed.added) ≤ 1 →
        times place (places_of_all code.terms ++ top_places code.tops) ≡ times place (places_of_all code.terms) + times place (top_places code.tops) →
        times place (places_of_all code.terms) ≡ times place (places_of_all so_far.placed.added) → times place (places_of_all code.terms ++ top_places code.tops) ≤ 1
    counted place a b c d = omega (arith, a, b, c, d)
