-- Terms whose notes are still to be written.
use Rattle.std.proofs.Common.{◌≡◌, ℕ, ◌+◌, ◌<◌, List, [], ◌∷◌, ◌++◌, length, sym, ap, subst, arith, Some, None}
use Rattle.elm_typing.specs.Sorts.{Sort, Simple, IsWellSorted, sort_of}
use Rattle.type_terms.specs.declared.node.Node.{Node}
use Rattle.type_terms.specs.declared.node.Node.TheVariants.{End}
use Rattle.type_terms.specs.declared.shape.Shape.{Shape}
use Rattle.type_terms.specs.declared.shape.Shape.TheVariants as shape
use Rattle.type_terms.specs.Depth.{AreNotesBelow, IsBelow, IsSound, sum_of}
use Rattle.type_terms.specs.Solutions.{Assignment, Solves, FitsNode}
use Rattle.type_terms.specs.Terms.{node_at, parts, terms_of, Each, IsLink, IsRest, IsVariable, LinksTo}
use Rattle.type_terms.proofs.Existence.{rest-tells}
use Rattle.type_terms.proofs.Solved.{links-same}
use Rattle.type_sorts.specs.Sorts.{Meets}
use Rattle.well_sorted.specs.Asking.{IsSorted, AreSorted, AreVariablesSorted, asked, each_simple, Tells}
use Rattle.well_sorted.proofs.Sorting.{parts-asked, parts-sorted}

each-append : (P : ℕ → Type 0) (xs ys : List ℕ) → Each P xs → Each P ys → Each P (xs ++ ys)
each-append P [] ys h k = k
each-append P (x ∷ xs) ys h k = (h.0, each-append P xs ys h.1 k)

each-apart : (P : ℕ → Type 0) (xs ys : List ℕ) → Each P (xs ++ ys) → Each P xs × Each P ys
each-apart P [] ys h = (tt, h)
each-apart P (x ∷ xs) ys h = let r = each-apart P xs ys h.1 in ((h.0, r.0), r.1)

meets-append : (s : Assignment) (chosen : ℕ → Sort) (xs ys : List (ℕ × ℕ)) → Meets s chosen xs → Meets s chosen ys → Meets s chosen (xs ++ ys)
meets-append s chosen [] ys h k = k
meets-append s chosen (x ∷ xs) ys h k = (h.0, meets-append s chosen xs ys h.1 k)

meets-apart : (s : Assignment) (chosen : ℕ → Sort) (xs ys : List (ℕ × ℕ)) → Meets s chosen (xs ++ ys) → Meets s chosen xs × Meets s chosen ys
meets-apart s chosen [] ys h = (tt, h)
meets-apart s chosen (x ∷ xs) ys h = let r = meets-apart s chosen xs ys h.1 in ((h.0, r.0), r.1)

sum-append : (w : ℕ → ℕ) (xs ys : List ℕ) → sum_of w (xs ++ ys) ≡ sum_of w xs + sum_of w ys
sum-append w [] ys = omega arith
sum-append w (x ∷ xs) ys = let i = sum-append w xs ys in omega (arith, i)

-- the notes' terms stand in the store
below-append : (n : ℕ) (xs ys : List (ℕ × ℕ)) → AreNotesBelow n xs → AreNotesBelow n ys → AreNotesBelow n (xs ++ ys)
below-append n [] ys h k = k
below-append n (x ∷ xs) ys h k = (h.0, h.1, below-append n xs ys h.2 k)

simple-below : (n simple : ℕ) (ks : List ℕ) → simple < n → Each (IsBelow n) ks → AreNotesBelow n (each_simple simple ks)
simple-below n simple [] lt h = tt
simple-below n simple (k ∷ ks) lt h = (h.0, lt, simple-below n simple ks lt h.1)

asked-below : (n simple : ℕ) (form : Shape) → simple < n → Each (IsBelow n) (parts form) → AreNotesBelow n (asked simple form)
asked-below n simple (shape.Variable flag) lt h = tt
asked-below n simple (shape.Opaque number flag) lt h = tt
asked-below n simple (shape.Named name arguments) lt h = simple-below n simple arguments lt h
asked-below n simple (shape.Arrow from to) lt h = (h.0, h.1.0, tt)
asked-below n simple (shape.Tuple ps) lt h = simple-below n simple ps lt h
asked-below n simple (shape.Row fields None) lt h = simple-below n simple (terms_of fields) lt h
asked-below n simple (shape.Row fields (Some rest)) lt h = simple-below n simple (terms_of fields) lt h.1

-- what the notes so far say of the terms, and of those that wait
pub record Waits (nodes : List Node) (simple : ℕ) (terms waiting : List ℕ) (notes : List (ℕ × ℕ)) : Type 0 where
  pub inside : Each (IsBelow (length nodes)) waiting
  pub known : simple < length nodes
  pub below : AreNotesBelow (length nodes) notes
  pub met : (chosen : ℕ → Sort) (s : Assignment) → Solves nodes s → sort_of chosen (s simple) ≡ Simple →
      AreSorted chosen s terms → Meets s chosen notes × AreSorted chosen s waiting
  pub only : (chosen : ℕ → Sort) (s : Assignment) → Solves nodes s → sort_of chosen (s simple) ≡ Simple →
      AreVariablesSorted nodes chosen s → Meets s chosen notes → AreSorted chosen s waiting → AreSorted chosen s terms

pub waits-first : (nodes : List Node) (simple : ℕ) (terms waiting : List ℕ) (notes : List (ℕ × ℕ)) → simple < length nodes → Each (IsBelow (length nodes)) terms →
    waiting ≡ [] ++ terms → notes ≡ [] → Waits nodes simple terms waiting notes
waits-first nodes simple terms waiting notes known inside e n =
    subst (λ (l : List ℕ). Waits nodes simple terms l notes) (sym e)
    (subst (Waits nodes simple terms terms) (sym n) (record {
      inside = inside;
      known = known;
      below = tt;
      met = λ chosen s h e sorted. (tt, sorted);
      only = λ chosen s h e variables meets sorted. sorted;
    }))

pub waits-inside : (nodes : List Node) (simple term : ℕ) (terms waiting rest : List ℕ) (notes : List (ℕ × ℕ)) → Waits nodes simple terms waiting notes →
    waiting ≡ rest ++ term ∷ [] → term < length nodes
waits-inside nodes simple term terms waiting rest notes w e =
    (each-apart (IsBelow (length nodes)) rest (term ∷ []) (subst (Each (IsBelow (length nodes))) e w.inside)).1.0

pub waits-on : (nodes : List Node) (bound simple term end : ℕ) (form : Shape) (terms waiting rest after : List ℕ) (notes noted : List (ℕ × ℕ)) →
    IsSound nodes bound → Waits nodes simple terms waiting notes → waiting ≡ rest ++ term ∷ [] → LinksTo nodes end term → node_at nodes end ≡ End form →
    Each (IsBelow (length nodes)) (parts form) → noted ≡ notes ++ asked simple form → after ≡ rest ++ parts form → Waits nodes simple terms after noted
waits-on nodes bound simple term end form terms waiting rest after notes noted sound w e leads is inside en ea =
    subst (λ (l : List ℕ). Waits nodes simple terms l noted) (sym ea)
    (subst (Waits nodes simple terms (rest ++ parts form)) (sym en) (record {
      inside = each-append (IsBelow (length nodes)) rest (parts form)
          (each-apart (IsBelow (length nodes)) rest (term ∷ []) (subst (Each (IsBelow (length nodes))) e w.inside)).0 inside;
      known = w.known;
      below = below-append (length nodes) notes (asked simple form) w.below (asked-below (length nodes) simple form w.known inside);
      met = λ chosen s h simple_is sorted.
          let k = w.met chosen s h simple_is sorted in
          let waits = each-apart (IsSorted chosen s) rest (term ∷ []) (subst (AreSorted chosen s) e k.1) in
          let p = parts-asked (IsRest nodes end) chosen s simple form (s end) simple_is (fit s h) (subst (IsWellSorted chosen) (links-same nodes s end term h leads) waits.1.0) in
          (meets-append s chosen notes (asked simple form) k.0 p.0, each-append (IsSorted chosen s) rest (parts form) waits.0 p.1);
      only = λ chosen s h simple_is variables meets sorted.
          let m = meets-apart s chosen notes (asked simple form) meets in
          let waits = each-apart (IsSorted chosen s) rest (parts form) sorted in
          let t = parts-sorted (IsRest nodes end) chosen s simple form (s end) simple_is (rest-tells nodes bound sound end no_link)
          (λ v. variables end (subst IsVariable (sym is) v)) (fit s h) m.1 waits.1 in
          w.only chosen s h simple_is variables m.0
          (subst (AreSorted chosen s) (sym e) (each-append (IsSorted chosen s) rest (term ∷ []) waits.0 (subst (IsWellSorted chosen) (sym (links-same nodes s end term h leads)) t, tt)));
    }))
  where
    fit : (s : Assignment) → Solves nodes s → FitsNode (IsRest nodes end) s (s end) (End form)
    fit s h = subst (FitsNode (IsRest nodes end) s (s end)) is (h.fits end)

    no_link : IsLink (node_at nodes end) → ⊥
    no_link l = subst IsLink is l

pub waits-lighter : (w : ℕ → ℕ) (waiting rest after ps : List ℕ) (term : ℕ) → waiting ≡ rest ++ term ∷ [] → sum_of w ps < w term → after ≡ rest ++ ps →
    sum_of w after < sum_of w waiting
waits-lighter w waiting rest after ps term e light ea =
    let x = ap (sum_of w) e in
    let y = ap (sum_of w) ea in
    let p = sum-append w rest (term ∷ []) in
    let q = sum-append w rest ps in
    omega (arith, x, y, p, q, light)

pub waits-tell : (nodes : List Node) (simple : ℕ) (terms waiting : List ℕ) (notes : List (ℕ × ℕ)) → Waits nodes simple terms waiting notes → waiting ≡ [] → Tells nodes simple terms notes
waits-tell nodes simple terms waiting notes w e = record {
  met = λ chosen s h simple_is sorted. (w.met chosen s h simple_is sorted).0;
  only = λ chosen s h simple_is variables meets. w.only chosen s h simple_is variables meets (subst (AreSorted chosen s) (sym e) tt);
}
