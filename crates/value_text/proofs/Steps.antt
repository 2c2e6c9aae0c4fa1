-- What a step of the writing keeps.
use Rattle.std.proofs.Common.{◌≡◌, ℕ, zero, suc, ◌+◌, ◌<◌, ◌≤◌, Some, None, List, [], ◌∷◌, ◌++◌, drop, refl, sym, ap, ◌∙◌, subst, arith, append_assoc}
use Rattle.std.specs.List.{slice_get}
use Rattle.std.proofs.lemmas.List.{append-nil}
use Rattle.elm_meaning.specs.Values.{Member, NoFunctions}
use Rattle.value_arena.specs.declared.node.Node.{Node}
use Rattle.value_arena.specs.Soundness.{RefsBelow}
use Rattle.value_arena.specs.Unfolding.{Lambdas}
use Rattle.value_text.specs.declared.piece.Piece.{Piece}
use Rattle.value_text.specs.Pieces.{piece_text, waiting, PieceBelow, PiecesBelow}
use Rattle.value_text.specs.Sizes.{sizes}

-- the pieces of a text don't hang on what closures are
abbrev pub no_lambdas : Lambdas
no_lambdas lambda captured = Member 0 NoFunctions

pub waiting-append : (lambdas : Lambdas) (nodes : List Node) (a b : List Piece) → waiting lambdas nodes (a ++ b) ≡ waiting lambdas nodes b ++ waiting lambdas nodes a
waiting-append lambdas nodes [] b = sym (append-nil (waiting lambdas nodes b))
waiting-append lambdas nodes (p ∷ ps) b =
    ap (λ (x : List ℕ). x ++ piece_text lambdas nodes p) (waiting-append lambdas nodes ps b)
    ∙ append_assoc (waiting lambdas nodes b) (waiting lambdas nodes ps) (piece_text lambdas nodes p)

pub sizes-append : (lambdas : Lambdas) (nodes : List Node) (a b : List Piece) → sizes lambdas nodes (a ++ b) ≡ sizes lambdas nodes a + sizes lambdas nodes b
sizes-append lambdas nodes [] b = omega arith
sizes-append lambdas nodes (p ∷ ps) b = omega (arith, sizes-append lambdas nodes ps b)

pub below-append : (n : ℕ) (a b : List Piece) → PiecesBelow n a → PiecesBelow n b → PiecesBelow n (a ++ b)
below-append n [] b h k = k
below-append n (p ∷ ps) b h k = (h.0, below-append n ps b h.1 k)

pub below-split : (n : ℕ) (a : List Piece) (p : Piece) → PiecesBelow n (a ++ p ∷ []) → PiecesBelow n a × PieceBelow n p
below-split n [] p h = (tt, h.0)
below-split n (q ∷ qs) p h = let s = below-split n qs p h.1 in ((h.0, s.0), s.1)

-- ---- places of lists

pub drop_some : {X : Type 0} (xs : List X) (i : ℕ) (x : X) → slice_get xs i ≡ Some x → drop i xs ≡ x ∷ drop (suc i) xs
drop_some [] i x h = absurd (cc)
drop_some (y ∷ ys) zero x h = ap (λ z. z ∷ ys) (let e : y ≡ x = cc in e)
drop_some (y ∷ ys) (suc i) x h = drop_some ys i x h

pub drop_none : {X : Type 0} (xs : List X) (i : ℕ) → slice_get xs i ≡ None → drop i xs ≡ []
drop_none [] zero h = refl
drop_none [] (suc i) h = refl
drop_none (y ∷ ys) zero h = absurd (cc)
drop_none (y ∷ ys) (suc i) h = drop_none ys i h

pub none_behind : {X : Type 0} (xs : List X) (i : ℕ) → slice_get xs i ≡ None → slice_get xs (suc i) ≡ None
none_behind [] i h = refl
none_behind (y ∷ ys) zero h = absurd (cc)
none_behind (y ∷ ys) (suc i) h = none_behind ys i h

pub ref_below : (n : ℕ) (refs : List ℕ) (i r : ℕ) → RefsBelow n refs → slice_get refs i ≡ Some r → r < n
ref_below n [] i r h k = absurd (cc)
ref_below n (s ∷ ss) zero r h k = let e : s ≡ r = cc in subst (λ (x : ℕ). x < n) e h.0
ref_below n (s ∷ ss) (suc i) r h k = ref_below n ss i r h.1 k

pub refs_below_more : (m n : ℕ) (refs : List ℕ) → m ≤ n → RefsBelow m refs → RefsBelow n refs
refs_below_more m n [] l h = tt
refs_below_more m n (r ∷ rs) l h = (omega (arith, h.0), refs_below_more m n rs l h.1)
