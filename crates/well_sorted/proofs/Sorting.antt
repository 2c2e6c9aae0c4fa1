-- Well sorted types by the sorts of their parts.
use Rattle.std.proofs.Common.{◌≡◌, ℕ, List, [], ◌∷◌, ◌⊎◌, refl, sym, subst, inl, inr, Some, None}
use Rattle.elm_typing.specs.Ground.{Ground, Row, Ends, Field}
use Rattle.elm_typing.specs.Labels.{is_after}
use Rattle.elm_typing.specs.Rows.{extended, extended_all}
use Rattle.elm_typing.specs.Sorts.{Sort, Simple, Signal, IsAtMost, IsWellSorted, AreSimple, HasSimpleFields, sort_of}
use Rattle.elm_typing.proofs.LabelOrder.{decided}
use Rattle.elm_typing.proofs.RowAlgebra.{front, past}
use Rattle.type_terms.specs.declared.node.Node.TheVariants.{End}
use Rattle.type_terms.specs.declared.shape.Shape.{Shape}
use Rattle.type_terms.specs.declared.shape.Shape.TheVariants as shape
use Rattle.type_terms.specs.Solutions.{Assignment, Fits, types_of, fields_of}
use Rattle.type_terms.specs.Terms.{terms_of, parts, IsVariable}
use Rattle.type_sorts.specs.Sorts.{Meets}
use Rattle.well_sorted.specs.Asking.{AreSorted, each_simple, asked}

at_most-simple : (a : Sort) → IsAtMost a Simple → a ≡ Simple
at_most-simple Simple h = refl
at_most-simple Signal h = absurd h

simple-at_most : (a b : Sort) → a ≡ Simple → IsAtMost a b
simple-at_most a Simple e = subst (λ x. IsAtMost x Simple) (sym e) tt
simple-at_most a Signal e = subst (λ x. IsAtMost x Signal) (sym e) tt

-- a note that a term is simple
is_simple : (chosen : ℕ → Sort) (s : Assignment) (simple k : ℕ) → sort_of chosen (s simple) ≡ Simple →
    IsAtMost (sort_of chosen (s k)) (sort_of chosen (s simple)) → sort_of chosen (s k) ≡ Simple
is_simple chosen s simple k e h = at_most-simple (sort_of chosen (s k)) (subst (IsAtMost (sort_of chosen (s k))) e h)

-- the parts of a type that isn't a function
parts-simple : (chosen : ℕ → Sort) (s : Assignment) (simple : ℕ) (ks : List ℕ) → sort_of chosen (s simple) ≡ Simple →
    AreSimple chosen (types_of s ks) → Meets s chosen (each_simple simple ks) × AreSorted chosen s ks
parts-simple chosen s simple [] e h = (tt, tt)
parts-simple chosen s simple (k ∷ ks) e h =
    let r = parts-simple chosen s simple ks e h.2 in
    ((simple-at_most (sort_of chosen (s k)) (sort_of chosen (s simple)) h.1, r.0), (h.0, r.1))

simple-parts : (chosen : ℕ → Sort) (s : Assignment) (simple : ℕ) (ks : List ℕ) → sort_of chosen (s simple) ≡ Simple →
    Meets s chosen (each_simple simple ks) → AreSorted chosen s ks → AreSimple chosen (types_of s ks)
simple-parts chosen s simple [] e m h = tt
simple-parts chosen s simple (k ∷ ks) e m h = (h.0, is_simple chosen s simple k e m.0, simple-parts chosen s simple ks e m.1 h.1)

-- a field more
pub field-apart : (chosen : ℕ → Sort) (l : List ℕ) (t : Ground) (row : Row) → HasSimpleFields chosen (extended l t row) →
    IsWellSorted chosen t × (sort_of chosen t ≡ Simple) × HasSimpleFields chosen row
field-apart chosen l t (Ends rest) h = (h.0, h.1, tt)
field-apart chosen l t (Field m u row) h =
    elim (decided (is_after l m)) as (λ _. IsWellSorted chosen t × (sort_of chosen t ≡ Simple) × HasSimpleFields chosen (Field m u row)) [
      | inl after ↦
          let k = subst (HasSimpleFields chosen) (past l t m u row after) h in
          let r = field-apart chosen l t row k.2 in
          (r.0, r.1, (k.0, k.1, r.2))
      | inr not ↦ subst (HasSimpleFields chosen) (front l t m u row not) h
    ]

pub field-added : (chosen : ℕ → Sort) (l : List ℕ) (t : Ground) (row : Row) →
    IsWellSorted chosen t → sort_of chosen t ≡ Simple → HasSimpleFields chosen row → HasSimpleFields chosen (extended l t row)
field-added chosen l t (Ends rest) w e h = (w, e, tt)
field-added chosen l t (Field m u row) w e h =
    elim (decided (is_after l m)) as (λ _. HasSimpleFields chosen (extended l t (Field m u row))) [
      | inl after ↦ subst (HasSimpleFields chosen) (sym (past l t m u row after)) (h.0, h.1, field-added chosen l t row w e h.2)
      | inr not ↦ subst (HasSimpleFields chosen) (sym (front l t m u row not)) (w, e, h)
    ]

fields-apart : (chosen : ℕ → Sort) (s : Assignment) (simple : ℕ) (fs : List (List ℕ × ℕ)) (row : Row) → sort_of chosen (s simple) ≡ Simple →
    HasSimpleFields chosen (extended_all (fields_of s fs) row) →
    Meets s chosen (each_simple simple (terms_of fs)) × AreSorted chosen s (terms_of fs) × HasSimpleFields chosen row
fields-apart chosen s simple [] row e h = (tt, tt, h)
fields-apart chosen s simple (f ∷ fs) row e h =
    let k = field-apart chosen f.0 (s f.1) (extended_all (fields_of s fs) row) h in
    let r = fields-apart chosen s simple fs row e k.2 in
    ((simple-at_most (sort_of chosen (s f.1)) (sort_of chosen (s simple)) k.1, r.0), (k.0, r.1), r.2)

fields-added : (chosen : ℕ → Sort) (s : Assignment) (simple : ℕ) (fs : List (List ℕ × ℕ)) (row : Row) → sort_of chosen (s simple) ≡ Simple →
    Meets s chosen (each_simple simple (terms_of fs)) → AreSorted chosen s (terms_of fs) → HasSimpleFields chosen row →
    HasSimpleFields chosen (extended_all (fields_of s fs) row)
fields-added chosen s simple [] row e m h r = r
fields-added chosen s simple (f ∷ fs) row e m h r =
    field-added chosen f.0 (s f.1) (extended_all (fields_of s fs) row) h.0 (is_simple chosen s simple f.1 e m.0) (fields-added chosen s simple fs row e m.1 h.1 r)

-- what a well sorted type says of its parts
pub parts-asked : (Rest : Type 0) (chosen : ℕ → Sort) (s : Assignment) (simple : ℕ) (form : Shape) (type : Ground) → sort_of chosen (s simple) ≡ Simple →
    Fits Rest s type form → IsWellSorted chosen type → Meets s chosen (asked simple form) × AreSorted chosen s (parts form)
parts-asked Rest chosen s simple (shape.Variable flag) type e fit w = (tt, tt)
parts-asked Rest chosen s simple (shape.Opaque number flag) type e fit w = (tt, tt)
parts-asked Rest chosen s simple (shape.Named name arguments) type e fit w = parts-simple chosen s simple arguments e (subst (IsWellSorted chosen) fit w)
parts-asked Rest chosen s simple (shape.Arrow from to) type e fit w =
    let k = subst (IsWellSorted chosen) fit w in ((k.2, tt), (k.0, (k.1, tt)))
parts-asked Rest chosen s simple (shape.Tuple ps) type e fit w = parts-simple chosen s simple ps e (subst (IsWellSorted chosen) fit w)
parts-asked Rest chosen s simple (shape.Row fields None) type e fit w =
    let r = fields-apart chosen s simple fields (Ends None) e (subst (IsWellSorted chosen) fit w) in (r.0, r.1)
parts-asked Rest chosen s simple (shape.Row fields (Some rest)) type e fit w =
    let r = fields-apart chosen s simple fields fit.0 e (subst (IsWellSorted chosen) fit.2 w) in
    (r.0, (subst (IsWellSorted chosen) (sym fit.1) r.2, r.1))

-- what the parts say of the type
pub parts-sorted : (Rest : Type 0) (chosen : ℕ → Sort) (s : Assignment) (simple : ℕ) (form : Shape) (type : Ground) → sort_of chosen (s simple) ≡ Simple →
    Rest ⊎ (Rest → ⊥) → (IsVariable (End form) → IsWellSorted chosen type) → Fits Rest s type form →
    Meets s chosen (asked simple form) → AreSorted chosen s (parts form) → IsWellSorted chosen type
parts-sorted Rest chosen s simple (shape.Variable flag) type e rest variable fit m h = variable tt
parts-sorted Rest chosen s simple (shape.Opaque number flag) type e rest variable fit m h =
    elim rest as (λ _. IsWellSorted chosen type) [
      | inl r ↦ subst (IsWellSorted chosen) (sym (fit.0 r)) tt
      | inr not ↦ subst (IsWellSorted chosen) (sym (fit.1 not)) tt
    ]
parts-sorted Rest chosen s simple (shape.Named name arguments) type e rest variable fit m h =
    subst (IsWellSorted chosen) (sym fit) (simple-parts chosen s simple arguments e m h)
parts-sorted Rest chosen s simple (shape.Arrow from to) type e rest variable fit m h =
    subst (IsWellSorted chosen) (sym fit) (h.0, h.1.0, m.0)
parts-sorted Rest chosen s simple (shape.Tuple ps) type e rest variable fit m h =
    subst (IsWellSorted chosen) (sym fit) (simple-parts chosen s simple ps e m h)
parts-sorted Rest chosen s simple (shape.Row fields None) type e rest variable fit m h =
    subst (IsWellSorted chosen) (sym fit) (fields-added chosen s simple fields (Ends None) e m h tt)
parts-sorted Rest chosen s simple (shape.Row fields (Some r)) type e rest variable fit m h =
    subst (IsWellSorted chosen) (sym fit.2) (fields-added chosen s simple fields fit.0 e m h.1 (subst (IsWellSorted chosen) fit.1 h.0))
