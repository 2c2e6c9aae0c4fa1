-- Rows in the order of their labels are the maps that they stand for.
use Rattle.std.proofs.Common.{◌≡◌, ◌≢◌, ℕ, true, false, cond, Some, List, [], ◌∷◌, refl, sym, ◌∙◌, ap, subst, inl, inr, length, arith, ◌≤◌}
use Rattle.std.specs.Str.{bytes_eq}
use Rattle.elm_typing.specs.Ground.{Ground, Row, Ends, Field}
use Rattle.elm_typing.specs.Labels.{is_after}
use Rattle.elm_typing.specs.Ordered.{LeadsTo, InOrder, RowInOrder}
use Rattle.elm_typing.specs.Rows.{extended, extended_all, types_of, rest_of, newest, removed, behind, Lacks, Apart}
use Rattle.elm_typing.proofs.LabelOrder.{decided, after_asymmetric, after_neither, at_most_trans, before_at_most, before_differs, bytes_eq_itself, bytes_eq_same, bytes_eq_differs}
use Rattle.elm_typing.proofs.RowAlgebra.{front, past}

-- what a field in front adds to the map
types_same : (l : List ℕ) (t : Ground) (r : Row) → types_of l (Field l t r) ≡ t ∷ types_of l r
types_same l t r = ap (λ b. cond b (t ∷ types_of l r) (types_of l r)) (bytes_eq_itself l)

types_other : (k l : List ℕ) (t : Ground) (r : Row) → k ≢ l → types_of k (Field l t r) ≡ types_of k r
types_other k l t r ne = ap (λ b. cond b (t ∷ types_of k r) (types_of k r)) (bytes_eq_differs k l ne)

-- a new field goes in front of the types of its label, and nothing else changes
pub types_of-extended : (l : List ℕ) (t : Ground) (r : Row) → types_of l (extended l t r) ≡ t ∷ types_of l r
types_of-extended l t (Ends o) = types_same l t (Ends o)
types_of-extended l t (Field m u r) =
    elim (decided (is_after l m)) as (λ _. types_of l (extended l t (Field m u r)) ≡ t ∷ types_of l (Field m u r)) [
      | inr h ↦ ap (types_of l) (front l t m u r h) ∙ types_same l t (Field m u r)
      | inl h ↦ (let ne : l ≢ m = λ e. before_differs m l h (sym e) in
          ap (types_of l) (past l t m u r h) ∙ types_other l m u (extended l t r) ne ∙ types_of-extended l t r
          ∙ ap (λ ts. t ∷ ts) (sym (types_other l m u r ne)))
    ]

pub types_of-extended_other : (k l : List ℕ) (t : Ground) (r : Row) → k ≢ l → types_of k (extended l t r) ≡ types_of k r
types_of-extended_other k l t (Ends o) ne = types_other k l t (Ends o) ne
types_of-extended_other k l t (Field m u r) ne =
    elim (decided (is_after l m)) as (λ _. types_of k (extended l t (Field m u r)) ≡ types_of k (Field m u r)) [
      | inr h ↦ ap (types_of k) (front l t m u r h) ∙ types_other k l t (Field m u r) ne
      | inl h ↦ ap (types_of k) (past l t m u r h)
          ∙ ap (λ ts. cond (bytes_eq k m) (u ∷ ts) ts) (types_of-extended_other k l t r ne)
    ]

pub rest_of-extended : (l : List ℕ) (t : Ground) (r : Row) → rest_of (extended l t r) ≡ rest_of r
rest_of-extended l t (Ends o) = refl
rest_of-extended l t (Field m u r) =
    elim (decided (is_after l m)) as (λ _. rest_of (extended l t (Field m u r)) ≡ rest_of r) [
      | inr h ↦ ap rest_of (front l t m u r h)
      | inl h ↦ ap rest_of (past l t m u r h) ∙ rest_of-extended l t r
    ]

-- the newest field is read and taken away --

newest_front : (l : List ℕ) (t : Ground) (r : Row) → newest l (Field l t r) ≡ Some t
newest_front l t r = ap (λ b. cond b (Some t) (newest l r)) (bytes_eq_itself l)

pub newest-extended : (l : List ℕ) (t : Ground) (r : Row) → newest l (extended l t r) ≡ Some t
newest-extended l t (Ends o) = newest_front l t (Ends o)
newest-extended l t (Field m u r) =
    elim (decided (is_after l m)) as (λ _. newest l (extended l t (Field m u r)) ≡ Some t) [
      | inr h ↦ ap (newest l) (front l t m u r h) ∙ newest_front l t (Field m u r)
      | inl h ↦ ap (newest l) (past l t m u r h)
          ∙ ap (λ b. cond b (Some u) (newest l (extended l t r))) (bytes_eq_differs l m (λ e. before_differs m l h (sym e))) ∙ newest-extended l t r
    ]

removed_front : (l : List ℕ) (t : Ground) (r : Row) → removed l (Field l t r) ≡ Some r
removed_front l t r = ap (λ b. cond b (Some r) (behind l t (removed l r))) (bytes_eq_itself l)

pub removed-extended : (l : List ℕ) (t : Ground) (r : Row) → removed l (extended l t r) ≡ Some r
removed-extended l t (Ends o) = removed_front l t (Ends o)
removed-extended l t (Field m u r) =
    elim (decided (is_after l m)) as (λ _. removed l (extended l t (Field m u r)) ≡ Some (Field m u r)) [
      | inr h ↦ ap (removed l) (front l t m u r h) ∙ removed_front l t (Field m u r)
      | inl h ↦ ap (removed l) (past l t m u r h)
          ∙ ap (λ b. cond b (Some (extended l t r)) (behind m u (removed l (extended l t r)))) (bytes_eq_differs l m (λ e. before_differs m l h (sym e)))
          ∙ ap (behind m u) (removed-extended l t r)
    ]

-- order --

leads_extended : (m l : List ℕ) (t : Ground) (r : Row) → is_after m l ≡ false → LeadsTo m r → LeadsTo m (extended l t r)
leads_extended m l t (Ends o) ml h = ml
leads_extended m l t (Field k u r) ml h =
    elim (decided (is_after l k)) as (λ b. LeadsTo m (extended l t (Field k u r))) [
      | inr e ↦ subst (LeadsTo m) (sym (front l t k u r e)) ml
      | inl e ↦ subst (LeadsTo m) (sym (past l t k u r e)) h
    ]

extended_leads : (m l : List ℕ) (t : Ground) (r : Row) → LeadsTo m (extended l t r) → LeadsTo m r
extended_leads m l t (Ends o) h = tt
extended_leads m l t (Field k u r) h =
    elim (decided (is_after l k)) as (λ b. LeadsTo m (Field k u r)) [
      | inr e ↦ at_most_trans m l k (subst (LeadsTo m) (front l t k u r e) h) e
      | inl e ↦ subst (LeadsTo m) (past l t k u r e) h
    ]

pub in_order-extended : (l : List ℕ) (t : Ground) (r : Row) → InOrder t → RowInOrder r → RowInOrder (extended l t r)
in_order-extended l t (Ends o) ht h = (ht, tt, tt)
in_order-extended l t (Field m u r) ht h =
    elim (decided (is_after l m)) as (λ b. RowInOrder (extended l t (Field m u r))) [
      | inr e ↦ subst RowInOrder (sym (front l t m u r e)) (ht, e, h)
      | inl e ↦ subst RowInOrder (sym (past l t m u r e))
          (h.0, leads_extended m l t r (after_asymmetric m l e) h.1, in_order-extended l t r ht h.2)
    ]

pub extended-in_order : (l : List ℕ) (t : Ground) (r : Row) → RowInOrder (extended l t r) → InOrder t × RowInOrder r
extended-in_order l t (Ends o) h = (h.0, tt)
extended-in_order l t (Field m u r) h =
    elim (decided (is_after l m)) as (λ b. InOrder t × RowInOrder (Field m u r)) [
      | inr e ↦ (let x = subst RowInOrder (front l t m u r e) h in (x.0, x.2))
      | inl e ↦ (let x = subst RowInOrder (past l t m u r e) h in
          let y = extended-in_order l t r x.2 in (y.0, (x.0, extended_leads m l t r x.1, y.1)))
    ]

-- the map and the rest are the whole row --

-- a label before the first one has no types
absent : (l m : List ℕ) (t : Ground) (r : Row) → is_after m l ≡ true → RowInOrder (Field m t r) → types_of l (Field m t r) ≡ []
absent l m t (Ends o) lt h = types_other l m t (Ends o) (before_differs l m lt)
absent l m t (Field k u r) lt h =
    types_other l m t (Field k u r) (before_differs l m lt) ∙ absent l k u r (before_at_most l m k lt h.1) h.2

pub maps_agree : (r s : Row) → RowInOrder r → RowInOrder s → ((l : List ℕ) → types_of l r ≡ types_of l s) → rest_of r ≡ rest_of s → r ≡ s
maps_agree (Ends o) (Ends p) hr hs same rest = ap Ends rest
maps_agree (Ends o) (Field m u s) hr hs same rest = let e = same m ∙ types_same m u s in cc e
maps_agree (Field l t r) (Ends p) hr hs same rest = let e = sym (types_same l t r) ∙ same l in cc e
maps_agree (Field l t r) (Field m u s) hr hs same rest =
    elim (decided (is_after m l)) as (λ _. Field l t r ≡ Field m u s) [
      | inl lt ↦ (let e = sym (types_same l t r) ∙ same l ∙ absent l m u s lt hs in cc e)
      | inr ge ↦ elim (decided (is_after l m)) as (λ _. Field l t r ≡ Field m u s) [
        | inl gt ↦ (let e = sym (types_same m u s) ∙ sym (same m) ∙ absent m l t r gt hr in cc e)
        | inr le ↦ fields_agree (after_neither l m le ge) (λ inner. maps_agree r s hr.2 hs.2 inner rest)
      ]
    ]
  where
    inner_same : l ≡ m → t ∷ types_of l r ≡ u ∷ types_of l s → (k : List ℕ) → types_of k r ≡ types_of k s
    inner_same e first k =
        elim (decided (bytes_eq k l)) as (λ _. types_of k r ≡ types_of k s) [
          | inl h ↦ (let x = bytes_eq_same k l h in let y : types_of l r ≡ types_of l s = cc first in
              ap (λ j. types_of j r) x ∙ y ∙ ap (λ j. types_of j s) (sym x))
          | inr h ↦ sym (ap (λ b. cond b (t ∷ types_of k r) (types_of k r)) h) ∙ same k
              ∙ ap (λ j. cond (bytes_eq k j) (u ∷ types_of k s) (types_of k s)) (sym e)
              ∙ ap (λ b. cond b (u ∷ types_of k s) (types_of k s)) h
        ]

    fields_agree : l ≡ m → (((k : List ℕ) → types_of k r ≡ types_of k s) → r ≡ s) → Field l t r ≡ Field m u s
    fields_agree e inner =
        let first : t ∷ types_of l r ≡ u ∷ types_of l s
        = sym (types_same l t r) ∙ same l ∙ ap (λ j. types_of l (Field j u s)) (sym e) ∙ types_same l u s in
        let x : t ≡ u = cc first in
        let y = inner (inner_same e first) in
        cc (e, x, y)

-- no row is its own rest --

types_of-lacks : (l : List ℕ) (gs : List (List ℕ × Ground)) (r : Row) → Lacks l gs → types_of l (extended_all gs r) ≡ types_of l r
types_of-lacks l [] r h = refl
types_of-lacks l (g ∷ gs) r h = types_of-extended_other l g.0 g.1 (extended_all gs r) h.0 ∙ types_of-lacks l gs r h.1

fewer_types : (l : List ℕ) (fs : List (List ℕ × Ground)) (r : Row) → length (types_of l r) ≤ length (types_of l (extended_all fs r))
fewer_types l [] r = omega arith
fewer_types l (f ∷ fs) r =
    elim (decided (bytes_eq l f.0)) as (λ _. length (types_of l r) ≤ length (types_of l (extended_all (f ∷ fs) r))) [
      | inl h ↦ (let e : length (types_of l (extended_all (f ∷ fs) r)) ≡ length (f.1 ∷ types_of l (extended_all fs r))
          = ap (λ k. length (types_of l (extended k f.1 (extended_all fs r)))) (sym (bytes_eq_same l f.0 h))
          ∙ ap length (types_of-extended l f.1 (extended_all fs r)) in
          omega (arith, e, fewer_types l fs r))
      | inr h ↦ (let e : length (types_of l (extended_all (f ∷ fs) r)) ≡ length (types_of l (extended_all fs r))
          = ap length (types_of-extended_other l f.0 f.1 (extended_all fs r) (λ x. label_clash l f.0 h x)) in
          omega (arith, e, fewer_types l fs r))
    ]
  where
    label_clash : (l m : List ℕ) → bytes_eq l m ≡ false → l ≡ m → ⊥
    label_clash l m h e = let x : true ≡ false = sym (bytes_eq_itself l) ∙ ap (bytes_eq l) e ∙ h in cc x

pub never_itself : (f : List ℕ × Ground) (fs gs : List (List ℕ × Ground)) (r : Row) → Apart (f ∷ fs) gs → extended_all (f ∷ fs) r ≡ extended_all gs r → ⊥
never_itself f fs gs r h e =
    let a = ap length (types_of-extended f.0 f.1 (extended_all fs r)) in
    let b = fewer_types f.0 fs r in
    let c = ap length (types_of-lacks f.0 gs r h.0) in
    let d = ap (λ x. length (types_of f.0 x)) e in omega (arith, a, b, c, d)
