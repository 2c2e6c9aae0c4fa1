-- A term behind its parts, and a tree that is made of theirs.
use Rattle.std.proofs.Common.{◌≡◌, ℕ, zero, suc, arith, ◌<◌, List, [], ◌∷◌, ◌++◌, length, map, drop, get_or, Result, Ok, Err, IfOk, refl, ap, ◌∙◌, subst}
use Rattle.elm_base.specs.declared.memory.NoMemory.{NoMemory}
use Rattle.elm_base.specs.declared.term.Term.{Term}
use Rattle.elm_base.specs.declared.term.Term.TheVariants as term
use Rattle.elm_base.specs.declared.term.TermPattern.{TermPattern}
use Rattle.elm_meaning.specs.Patterns.{pattern_of}
use Rattle.elm_meaning.specs.Values.{Tree, NoTree}
use Rattle.elm_meaning.specs.Terms.{tree_at, tree_of, trees_of}
use Rattle.elm_meaning.specs.Lowered.{places_of}
use Rattle.core_trees.specs.declared.pattern.PatternTree.{PatternTree}
use Rattle.code_lower.specs.Laying.{Lowers, Wraps, pattern_for, lambdas_for}
use Rattle.code_lower.proofs.Laying.{nothing_yet, closes}

-- a term that was pushed
abbrev pub Pushed : List Term → List Term → Term → ℕ → Type 0
Pushed old new t at = (at ≡ length old) × (new ≡ old ++ t ∷ [])

pub on_ok : (r : Result ℕ NoMemory) (P Q : ℕ → Type 0) → ((at : ℕ) → P at → Q at) → IfOk r P → IfOk r Q
on_ok (Ok at) P Q f h = f at h
on_ok (Err e) P Q f h = tt

-- the tree of the term is put together of the trees at its parts' places
pub form : (a b new : List Term) (ps : List ℕ) (ts : List Tree) (t : Term) (at : ℕ) (whole : Tree) (together : List Tree → Tree) → Pushed b new t at →
    places_of t ≡ ps → tree_of (trees_of b) t ≡ together (map (tree_at (trees_of b)) ps) → together ts ≡ whole → Lowers a b ps ts → Lowers a new (at ∷ []) (whole ∷ [])
form a b new ps ts t at whole together pushed parts made is f =
    closes a b new ps ts t at whole pushed.0 pushed.1 parts (made ∙ ap together f.are ∙ is) f

pub alone : (a new : List Term) (t : Term) (at : ℕ) (whole : Tree) → Pushed a new t at → places_of t ≡ [] → tree_of (trees_of a) t ≡ whole → Lowers a new (at ∷ []) (whole ∷ [])
alone a new t at whole pushed parts is = closes a a new [] [] t at whole pushed.0 pushed.1 parts is (nothing_yet a)

-- ---- lambdas

abbrev lambda_from : PatternTree → List Tree → Tree
lambda_from p (b ∷ []) = Tree.Lambda (pattern_for p) b
lambda_from p _ = NoTree

pub abstracted : (old new : List Term) (p : PatternTree) (made : TermPattern) (body at : ℕ) → pattern_of made ≡ pattern_for p → Pushed old new (term.Lambda made body) at → Wraps old new body at (Tree.Lambda (pattern_for p))
abstracted old new p made body at same pushed before tree f =
    form before old new (body ∷ []) (tree ∷ []) (term.Lambda made body) at (Tree.Lambda (pattern_for p) tree) (lambda_from p) pushed refl
    (ap (λ q. Tree.Lambda q (tree_at (trees_of old) body)) same) refl f

pub wraps_nothing : (old : List Term) (at : ℕ) → Wraps old old at at (λ t. t)
wraps_nothing old at before tree f = f

pub wraps_twice : (a b c : List Term) (x y z : ℕ) (f g : Tree → Tree) → Wraps a b x y f → Wraps b c y z g → Wraps a c x z (λ t. g (f t))
wraps_twice a b c x y z f g p q before tree h = q before (f tree) (p before tree h)

pub wraps_as : (a b : List Term) (x y : ℕ) (f g : Tree → Tree) → ((t : Tree) → f t ≡ g t) → Wraps a b x y f → Wraps a b x y g
wraps_as a b x y f g same p before tree h = subst (λ u. Lowers before b (y ∷ []) (u ∷ [])) (same tree) (p before tree h)

lambdas_turn : (ps : List PatternTree) (i : ℕ) (p : PatternTree) (t : Tree) → i < length ps → p ≡ get_or ps i p → Tree.Lambda (pattern_for p) (lambdas_for (drop (suc i) ps) t) ≡ lambdas_for (drop i ps) t
lambdas_turn [] i p t lt is = absurd (omega (arith, lt))
lambdas_turn (q ∷ ps) zero p t lt is = ap (λ x. Tree.Lambda (pattern_for x) (lambdas_for ps t)) is
lambdas_turn (q ∷ ps) (suc i) p t lt is = lambdas_turn ps i p t (omega (arith, lt)) is

-- one parameter more
pub parameter_turn : (a b c : List Term) (x y z i : ℕ) (ps : List PatternTree) (p : PatternTree) → i < length ps → p ≡ get_or ps i p →
    Wraps a b x y (lambdas_for (drop (suc i) ps)) → Wraps b c y z (Tree.Lambda (pattern_for p)) → Wraps a c x z (lambdas_for (drop i ps))
parameter_turn a b c x y z i ps p lt is f g =
    wraps_as a c x z (λ t. Tree.Lambda (pattern_for p) (lambdas_for (drop (suc i) ps) t)) (lambdas_for (drop i ps)) (λ t. lambdas_turn ps i p t lt is)
    (wraps_twice a b c x y z (lambdas_for (drop (suc i) ps)) (Tree.Lambda (pattern_for p)) f g)

-- with other words for the tree
pub renamed : (r : Result ℕ NoMemory) (a b : List Term) (t u : Tree) → t ≡ u → IfOk r (λ at. Lowers a b (at ∷ []) (t ∷ [])) → IfOk r (λ at. Lowers a b (at ∷ []) (u ∷ []))
renamed r a b t u same h = subst (λ x. IfOk r (λ at. Lowers a b (at ∷ []) (x ∷ []))) same h
