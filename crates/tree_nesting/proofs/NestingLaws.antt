-- The nesting of each form of tree.
use Rattle.std.proofs.Common.{IsTrue, Bool, true, false, subst, ◌≡◌, ℕ, zero, suc, ◌-◌, ◌<◌, ◌≤◌, List, [], ◌∷◌, ◌++◌, length, get_or, map, take, ◌+◌, add-one, Option, refl, sym, ◌∙◌, ap, arith}
use Rattle.std.proofs.Math.Seq.{take-suc}
use Rattle.std.proofs.lemmas.List.{map-append}
use Rattle.elm_base.specs.declared.token.At.{At}
use Rattle.elm_base.specs.declared.tree.Spot.{Spot}
use Rattle.elm_base.specs.declared.tree.Pattern.{Pattern}
use Rattle.elm_base.specs.declared.tree.Pattern.TheOpen as pattern
use Rattle.elm_base.specs.declared.tree.Pattern.TheFolds.{fold-roll-Pattern}
use Rattle.elm_base.specs.declared.tree.Pattern.TheVariants as p
use Rattle.elm_base.specs.declared.tree.TypeTree.{TypeTree}
use Rattle.elm_base.specs.declared.tree.TypeTree.TheOpen as type
use Rattle.elm_base.specs.declared.tree.TypeTree.TheFolds.{fold-roll-TypeTree}
use Rattle.elm_base.specs.declared.tree.TypeTree.TheVariants as t
use Rattle.tree_nesting.proofs.Each.{Each}
use Rattle.tree_nesting.specs.Nesting.{most, around, type_step, type_nesting, pattern_step, pattern_nesting}

pub of_variable : (at : At) (name : List ℕ) → type_nesting (t.Variable at name) ≡ 0
of_variable at name = ap type_nesting (sym (t.rolls-Variable at name)) ∙ fold-roll-TypeTree ℕ type_step (type.Variable at name)

pub of_named : (at : At) (name : List ℕ) (xs : List TypeTree) → type_nesting (t.Named at name xs) ≡ around (map type_nesting xs)
of_named at name xs = ap type_nesting (sym (t.rolls-Named at name xs)) ∙ fold-roll-TypeTree ℕ type_step (type.Named at name xs)

pub of_arrow : (at : At) (a b : TypeTree) → type_nesting (t.Arrow at a b) ≡ around (type_nesting a ∷ type_nesting b ∷ [])
of_arrow at a b = ap type_nesting (sym (t.rolls-Arrow at a b)) ∙ fold-roll-TypeTree ℕ type_step (type.Arrow at a b)

pub of_unit : (at : At) → type_nesting (t.Unit at) ≡ 0
of_unit at = ap type_nesting (sym (t.rolls-Unit at)) ∙ fold-roll-TypeTree ℕ type_step (type.Unit at)

pub of_tuple : (at : At) (xs : List TypeTree) → type_nesting (t.Tuple at xs) ≡ around (map type_nesting xs)
of_tuple at xs = ap type_nesting (sym (t.rolls-Tuple at xs)) ∙ fold-roll-TypeTree ℕ type_step (type.Tuple at xs)

pub of_brackets : (at : At) (x : TypeTree) → type_nesting (t.Brackets at x) ≡ around (type_nesting x ∷ [])
of_brackets at x = ap type_nesting (sym (t.rolls-Brackets at x)) ∙ fold-roll-TypeTree ℕ type_step (type.Brackets at x)

-- the nestings of the types of fields
abbrev pub field_nestings : List (Spot × TypeTree) → List ℕ
field_nestings fields = map (λ field. type_nesting field.1) fields

pub map_twice : {A B C : Type 0} (f : B → C) (g : A → B) (xs : List A) → map f (map g xs) ≡ map (λ x. f (g x)) xs
map_twice f g [] = refl
map_twice f g (x ∷ xs) = ap (λ ys. f (g x) ∷ ys) (map_twice f g xs)

pub of_fields : (at : At) (before : Option Spot) (fields : List (Spot × TypeTree)) → type_nesting (t.Fields at before fields) ≡ around (field_nestings fields)
of_fields at before fields =
    ap type_nesting (sym (t.rolls-Fields at before fields)) ∙ fold-roll-TypeTree ℕ type_step (type.Fields at before fields)
    ∙ ap around (map_twice (λ field. field.1) (λ (field : Spot × TypeTree). (field.0, type_nesting field.1)) fields)

-- ---- patterns

pub of_made : (at : At) (name : List ℕ) (xs : List Pattern) → pattern_nesting (p.Made at name xs) ≡ around (map pattern_nesting xs)
of_made at name xs = ap pattern_nesting (sym (p.rolls-Made at name xs)) ∙ fold-roll-Pattern ℕ pattern_step (pattern.Made at name xs)

pub of_cons : (at : At) (a b : Pattern) → pattern_nesting (p.Cons at a b) ≡ around (pattern_nesting a ∷ pattern_nesting b ∷ [])
of_cons at a b = ap pattern_nesting (sym (p.rolls-Cons at a b)) ∙ fold-roll-Pattern ℕ pattern_step (pattern.Cons at a b)

pub of_list : (at : At) (xs : List Pattern) → pattern_nesting (p.List at xs) ≡ around (map pattern_nesting xs)
of_list at xs = ap pattern_nesting (sym (p.rolls-List at xs)) ∙ fold-roll-Pattern ℕ pattern_step (pattern.List at xs)

pub of_pattern_tuple : (at : At) (xs : List Pattern) → pattern_nesting (p.Tuple at xs) ≡ around (map pattern_nesting xs)
of_pattern_tuple at xs = ap pattern_nesting (sym (p.rolls-Tuple at xs)) ∙ fold-roll-Pattern ℕ pattern_step (pattern.Tuple at xs)

pub of_pattern_brackets : (at : At) (x : Pattern) → pattern_nesting (p.Brackets at x) ≡ around (pattern_nesting x ∷ [])
of_pattern_brackets at x = ap pattern_nesting (sym (p.rolls-Brackets at x)) ∙ fold-roll-Pattern ℕ pattern_step (pattern.Brackets at x)

pub of_pattern_named : (at : At) (x : Pattern) (name : Spot) → pattern_nesting (p.Named at x name) ≡ around (pattern_nesting x ∷ [])
of_pattern_named at x name = ap pattern_nesting (sym (p.rolls-Named at x name)) ∙ fold-roll-Pattern ℕ pattern_step (pattern.Named at x name)

-- ---- parts and the whole

pub most_last : (ns : List ℕ) (n limit : ℕ) → most ns ≤ limit → n ≤ limit → most (ns ++ n ∷ []) ≤ limit
most_last [] n limit h k = omega arith
most_last (m ∷ ns) n limit h k = let more = most_last ns n limit (omega arith) k in omega arith

-- one part more
pub around_last : (ns : List ℕ) (n limit : ℕ) → around ns ≤ limit → n < limit → around (ns ++ n ∷ []) ≤ limit
around_last [] n limit h k = omega arith
around_last (m ∷ ns) n limit h k =
    let less : most ns ≤ limit - 1 = omega arith in
    let more = most_last ns n (limit - 1) less (omega arith) in
    omega arith

module _ {A : Type 0} (f : A → ℕ) where
  pub most_at : (xs : List A) (i : ℕ) (d : A) → i < length xs → f (get_or xs i d) ≤ most (map f xs)
  most_at [] i d h = absurd (omega arith)
  most_at (x ∷ xs) zero d h = omega arith
  most_at (x ∷ xs) (suc i) d h = let less = most_at xs i d (omega arith) in omega arith

  -- each part nests less deep than the whole
  pub around_at : (xs : List A) (i : ℕ) (d : A) → i < length xs → f (get_or xs i d) < around (map f xs)
  around_at [] i d h = absurd (omega arith)
  around_at (x ∷ xs) i d h = let less = most_at (x ∷ xs) i d h in omega arith

  -- a part more of those that are looked at in turn
  pub around_turn : (xs : List A) (i limit : ℕ) (d : A) → i < length xs → around (map f (take i xs)) ≤ limit → f (get_or xs i d) < limit
      → around (map f (take (i + 1) xs)) ≤ limit
  around_turn xs i limit d h k less =
      rw (add-one, take-suc xs i d h, map-append) (around_last (map f (take i xs)) (f (get_or xs i d)) limit k less)

  pub most_each : (xs : List A) (limit : ℕ) → most (map f xs) < limit → Each (λ x. f x < limit) xs
  most_each [] limit h = tt
  most_each (x ∷ xs) limit h = (omega arith, most_each xs limit (omega arith))

  pub around_each : (xs : List A) (limit : ℕ) → around (map f xs) ≤ limit → Each (λ x. f x < limit) xs
  around_each [] limit h = tt
  around_each (x ∷ xs) limit h = most_each (x ∷ xs) limit (omega arith)

-- The turn of a loop over parts, by what was said of the part at hand.
module _ {A : Type 0} (f : A → ℕ) (xs : List A) (i limit : ℕ) (item : A) (b : Bool) (here : i < length xs) (is : item ≡ get_or xs i item)
    (within : IsTrue b → f item < limit) (so : f item < limit → IsTrue b) where
  pub more : b ≡ true → around (map f (take i xs)) ≤ limit → around (map f (take (i + 1) xs)) ≤ limit
  more e h = around_turn f xs i limit item here h (subst (λ z. f z < limit) is (within e))

  pub none : b ≡ false → (IsTrue false → around (map f xs) ≤ limit) × (around (map f xs) ≤ limit → IsTrue false)
  none e = (
    λ h. cc,
    λ h.
        let below : f (get_or xs i item) < limit = omega (arith, around_at f xs i item here) in
        sym e ∙ so (subst (λ z. f z < limit) (sym is) below),
  )
