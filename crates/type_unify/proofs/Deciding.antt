-- What two rows without common labels ask for.
use Rattle.std.proofs.Common.{◌≡◌, ◌≢◌, ◌⊎◌, ℕ, List, [], ◌∷◌, Option, Some, None, refl, sym, ◌∙◌, ap, inl, inr}
use Rattle.elm_typing.specs.Ground.{Row, Record, Ends}
use Rattle.elm_typing.specs.Rows.{extended_all, Apart}
use Rattle.elm_typing.proofs.RowAlgebra.{apart_solve, ends_apart}
use Rattle.elm_typing.proofs.RowMaps.{never_itself}
use Rattle.type_terms.specs.declared.node.Node.{Node}
use Rattle.type_terms.specs.Solutions.{Assignment, fields_of}
use Rattle.type_terms.specs.Terms.{terms_of, Each}
use Rattle.type_unify.specs.declared.rows.Tail.{Tail}
use Rattle.type_unify.specs.declared.rows.Tail.TheVariants.{Closed, Rigid, Open}
use Rattle.type_unify.specs.declared.step.Step.{Step}
use Rattle.type_unify.specs.declared.step.Step.TheVariants.{Done, Clash, Extends}
use Rattle.type_unify.specs.Matching.{Fields, Misses, Disjoint}
use Rattle.type_unify.specs.Rests.{IsType}
use Rattle.type_unify.specs.Steps.{row_of, under, IsTail, Decides}
use Rattle.type_unify.proofs.Match.{misses_lacks}
use Rattle.type_unify.proofs.Reading.{rest_record}

pub fields_apart : (s : Assignment) (fs gs : Fields) → Disjoint fs gs → Apart (fields_of s fs) (fields_of s gs)
fields_apart s [] gs h = tt
fields_apart s (f ∷ fs) gs h = (misses_lacks s f.0 gs h.0, fields_apart s fs gs h.1)

disjoint_none : (gs : Fields) → Disjoint gs []
disjoint_none [] = tt
disjoint_none (g ∷ gs) = (tt, disjoint_none gs)

disjoint_cons : (f : List ℕ × ℕ) (fs gs : Fields) → Misses f.0 gs → Disjoint gs fs → Disjoint gs (f ∷ fs)
disjoint_cons f fs [] m h = tt
disjoint_cons f fs (g ∷ gs) m h = (((λ e. m.0 (sym e)), h.0), disjoint_cons f fs gs m.1 h.1)

pub disjoint_swap : (fs gs : Fields) → Disjoint fs gs → Disjoint gs fs
disjoint_swap [] gs h = disjoint_none gs
disjoint_swap (f ∷ fs) gs h = disjoint_cons f fs gs h.0 (disjoint_swap fs gs h.1)

rigid_ends : (s : Assignment) (tail : Tail) → ((other : ℕ) → tail ≢ Open other) → (o : Option ℕ) × (under s tail ≡ Ends o)
rigid_ends s Closed h = (None, refl)
rigid_ends s (Rigid at number) h = (Some number, refl)
rigid_ends s (Open at) h = absurd (h at refl)

-- fields of the left row alone don't fit an end on the right
left_blocked : (s : Assignment) (fs gs : Fields) (x : Row) (o : Option ℕ) → fs ≢ [] → Disjoint fs gs → extended_all (fields_of s fs) x ≡ extended_all (fields_of s gs) (Ends o) → ⊥
left_blocked s [] gs x o ne h e = ne refl
left_blocked s (f ∷ fs) gs x o ne h e =
    let w = apart_solve (fields_of s (f ∷ fs)) (fields_of s gs) x (Ends o) (fields_apart s (f ∷ fs) gs h) e in
    ends_apart o f.0 (s f.1) (extended_all (fields_of s fs) w.0) w.2

either_left : (fs gs : Fields) → ((fs ≡ []) × (gs ≡ []) → ⊥) → (fs ≢ []) ⊎ (gs ≢ [])
either_left [] [] h = absurd (h (refl, refl))
either_left [] (g ∷ gs) h = inr (λ e. cc e)
either_left (f ∷ fs) gs h = inl (λ e. cc e)

pub decides_same : (nodes : List Node) (left right : Fields) (x y : ℕ) → x ≡ y → (left ≡ []) × (right ≡ []) → Decides nodes left (Open x) right (Open y) Done
decides_same nodes left right x y e empty = record {
  to = λ s h r. tt;
  back = λ s h t. ap (λ fs. extended_all (fields_of s fs) (row_of (s x))) empty.0 ∙ ap (λ z. row_of (s z)) e
      ∙ ap (λ fs. extended_all (fields_of s fs) (row_of (s y))) (sym empty.1);
  takes = tt;
}

never : (s : Assignment) (fs gs : Fields) (x : Row) → ((fs ≡ []) × (gs ≡ []) → ⊥) → Disjoint fs gs → extended_all (fields_of s fs) x ≡ extended_all (fields_of s gs) x → ⊥
never s [] [] x h d e = h (refl, refl)
never s [] (g ∷ gs) x h d e =
    never_itself (g.0, s g.1) (fields_of s gs) [] x (fields_apart s (g ∷ gs) [] (disjoint_none (g ∷ gs))) (sym e)
never s (f ∷ fs) gs x h d e = never_itself (f.0, s f.1) (fields_of s fs) (fields_of s gs) x (fields_apart s (f ∷ fs) gs d) e

pub decides_never : (nodes : List Node) (left right : Fields) (x y : ℕ) → x ≡ y → ((left ≡ []) × (right ≡ []) → ⊥) → Disjoint left right → Decides nodes left (Open x) right (Open y) Clash
decides_never nodes left right x y e some apart = record {
  to = λ s h r. never s left right (row_of (s x)) some apart (r ∙ ap (λ z. extended_all (fields_of s right) (row_of (s z))) (sym e));
  back = λ s h t. absurd t;
  takes = tt;
}

pub decides_left : (nodes : List Node) (left right : Fields) (x : ℕ) (tail : Tail) → left ≡ [] → IsTail nodes (Open x) → IsTail nodes tail → tail ≢ Open x →
    Each (IsType nodes) (terms_of right) → Decides nodes left (Open x) right tail (Extends x right tail)
decides_left nodes left right x tail empty first second other types = record {
  to = λ s h r. rest_record nodes s x h first.1 ∙ ap Record (ap (λ fs. extended_all (fields_of s fs) (row_of (s x))) (sym empty) ∙ r);
  back = λ s h t. ap (λ fs. extended_all (fields_of s fs) (row_of (s x))) empty ∙ ap row_of t;
  takes = record { source = first; ends = second; other = other; types = types };
}

pub decides_blocked : (nodes : List Node) (left right : Fields) (x : ℕ) (tail : Tail) → left ≢ [] → ((other : ℕ) → tail ≢ Open other) → Disjoint left right →
    Decides nodes left (Open x) right tail Clash
decides_blocked nodes left right x tail some rigid apart = record {
  to = λ s h r. let w = rigid_ends s tail rigid in
      left_blocked s left right (row_of (s x)) w.0 some apart (r ∙ ap (extended_all (fields_of s right)) w.1);
  back = λ s h t. absurd t;
  takes = tt;
}

pub decides_swapped : (nodes : List Node) (left right : Fields) (first second : Tail) (step : Step) → Decides nodes right second left first step → Decides nodes left first right second step
decides_swapped nodes left right first second step d = record {
  to = λ s h r. d.to s h (sym r);
  back = λ s h t. sym (d.back s h t);
  takes = d.takes;
}

pub decides_rigid : (nodes : List Node) (left right : Fields) (first second : Tail) → (left ≡ []) × (right ≡ []) → ((s : Assignment) → under s first ≡ under s second) →
    Decides nodes left first right second Done
decides_rigid nodes left right first second empty same = record {
  to = λ s h r. tt;
  back = λ s h t. ap (λ fs. extended_all (fields_of s fs) (under s first)) empty.0 ∙ same s ∙ ap (λ fs. extended_all (fields_of s fs) (under s second)) (sym empty.1);
  takes = tt;
}

pub decides_unlike : (nodes : List Node) (left right : Fields) (first second : Tail) → (left ≡ []) × (right ≡ []) → ((s : Assignment) → under s first ≢ under s second) →
    Decides nodes left first right second Clash
decides_unlike nodes left right first second empty other = record {
  to = λ s h r. other s (ap (λ fs. extended_all (fields_of s fs) (under s first)) (sym empty.0) ∙ r ∙ ap (λ fs. extended_all (fields_of s fs) (under s second)) empty.1);
  back = λ s h t. absurd t;
  takes = tt;
}

pub decides_left_over : (nodes : List Node) (left right : Fields) (first second : Tail) → ((left ≡ []) × (right ≡ []) → ⊥) →
    ((other : ℕ) → first ≢ Open other) → ((other : ℕ) → second ≢ Open other) → Disjoint left right → Decides nodes left first right second Clash
decides_left_over nodes left right first second some rigid-first rigid-second apart = record {
  to = λ s h r.
      let a = rigid_ends s first rigid-first in
      let b = rigid_ends s second rigid-second in
      elim (either_left left right some) as (λ _. ⊥) [
        | inl ne ↦ left_blocked s left right (under s first) b.0 ne apart (r ∙ ap (extended_all (fields_of s right)) b.1)
        | inr ne ↦ left_blocked s right left (under s second) a.0 ne (disjoint_swap left right apart) (sym r ∙ ap (extended_all (fields_of s left)) a.1)
      ];
  back = λ s h t. absurd t;
  takes = tt;
}
