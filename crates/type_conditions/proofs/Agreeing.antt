-- What the types of old terms decide.
use Rattle.std.proofs.Common.{◌≡◌, ℕ, List, [], ◌∷◌, ◌++◌, length, refl, sym, subst, arith, inl, inr}
use Rattle.elm_typing.specs.Ground.{Ground}
use Rattle.elm_typing.specs.Sorts.{Sort, IsAtMost, IsWellSorted, sort_of}
use Rattle.type_terms.specs.declared.node.Node.{Node}
use Rattle.type_terms.specs.Depth.{AreNotesBelow}
use Rattle.type_terms.specs.Solutions.{Assignment, with_type}
use Rattle.type_terms.specs.Terms.{Each}
use Rattle.type_terms.proofs.Composed.{with-cases}
use Rattle.type_unify.specs.Rests.{IsType}
use Rattle.type_unify.specs.Taken.{Agree}
use Rattle.type_sorts.specs.Sorts.{Meets}
use Rattle.well_sorted.specs.Asking.{AreSorted}

pub agree-meets : (n : ℕ) (s r : Assignment) (chosen : ℕ → Sort) (notes : List (ℕ × ℕ)) → Agree n s r → AreNotesBelow n notes → Meets s chosen notes → Meets r chosen notes
agree-meets n s r chosen [] agree below h = tt
agree-meets n s r chosen (note ∷ notes) agree below h = (
  subst (λ (t : Ground). IsAtMost (sort_of chosen t) (sort_of chosen (r note.1))) (agree note.0 below.0)
      (subst (λ (t : Ground). IsAtMost (sort_of chosen (s note.0)) (sort_of chosen t)) (agree note.1 below.1) h.0),
  agree-meets n s r chosen notes agree below.2 h.1,
)

pub agree-sorted : (nodes : List Node) (s r : Assignment) (chosen : ℕ → Sort) (terms : List ℕ) → Agree (length nodes) s r → Each (IsType nodes) terms → AreSorted chosen s terms → AreSorted chosen r terms
agree-sorted nodes s r chosen [] agree types h = tt
agree-sorted nodes s r chosen (k ∷ ks) agree types h =
    (subst (IsWellSorted chosen) (agree k types.0.0) h.0, agree-sorted nodes s r chosen ks agree types.1 h.1)

-- another type for a term behind the old ones
pub with_type-agrees : (n : ℕ) (s : Assignment) (type : Ground) → Agree n s (with_type s n type)
with_type-agrees n s type i lt =
    elim (with-cases s n type i) as (λ _. s i ≡ with_type s n type i) [ inl h ↦ absurd (omega (arith, h.0, lt)) | inr h ↦ sym h.1 ]

pub with_type-itself : (n : ℕ) (s : Assignment) (type : Ground) → with_type s n type n ≡ type
with_type-itself n s type = elim (with-cases s n type n) as (λ _. with_type s n type n ≡ type) [ inl h ↦ h.1 | inr h ↦ absurd (h.0 refl) ]

pub sorted-append : (chosen : ℕ → Sort) (s : Assignment) (xs ys : List ℕ) → AreSorted chosen s xs → AreSorted chosen s ys → AreSorted chosen s (xs ++ ys)
sorted-append chosen s [] ys h k = k
sorted-append chosen s (x ∷ xs) ys h k = (h.0, sorted-append chosen s xs ys h.1 k)

pub sorted-apart : (chosen : ℕ → Sort) (s : Assignment) (xs ys : List ℕ) → AreSorted chosen s (xs ++ ys) → AreSorted chosen s xs × AreSorted chosen s ys
sorted-apart chosen s [] ys h = (tt, h)
sorted-apart chosen s (x ∷ xs) ys h = let r = sorted-apart chosen s xs ys h.1 in ((h.0, r.0), r.1)

pub meets-append : (s : Assignment) (chosen : ℕ → Sort) (xs ys : List (ℕ × ℕ)) → Meets s chosen xs → Meets s chosen ys → Meets s chosen (xs ++ ys)
meets-append s chosen [] ys h k = k
meets-append s chosen (x ∷ xs) ys h k = (h.0, meets-append s chosen xs ys h.1 k)

pub meets-apart : (s : Assignment) (chosen : ℕ → Sort) (xs ys : List (ℕ × ℕ)) → Meets s chosen (xs ++ ys) → Meets s chosen xs × Meets s chosen ys
meets-apart s chosen [] ys h = (tt, h)
meets-apart s chosen (x ∷ xs) ys h = let r = meets-apart s chosen xs ys h.1 in ((h.0, r.0), r.1)

-- notes see sorts alone
pub same-meets : (s r : Assignment) (chosen : ℕ → Sort) (notes : List (ℕ × ℕ)) → ((i : ℕ) → sort_of chosen (r i) ≡ sort_of chosen (s i)) → Meets s chosen notes → Meets r chosen notes
same-meets s r chosen [] same h = tt
same-meets s r chosen (note ∷ notes) same h = (
  subst (λ (a : Sort). IsAtMost a (sort_of chosen (r note.1))) (sym (same note.0))
      (subst (λ (a : Sort). IsAtMost (sort_of chosen (s note.0)) a) (sym (same note.1)) h.0),
  same-meets s r chosen notes same h.1,
)
