-- The newest field of a row.
use Rattle.std.proofs.Common.{◌≡◌, ◌≢◌, ℕ, true, false, Option, Some, None, List, [], ◌∷◌, ◌⊎◌, if◌then◌else◌, inl, inr, refl, sym, ◌∙◌, ap, subst}
use Rattle.std.specs.Str.{bytes_eq}
use Rattle.elm_typing.specs.Ground.{Ground, Row, Ends, Field}
use Rattle.elm_typing.specs.Labels.{is_after}
use Rattle.elm_typing.specs.Ordered.{InOrder, RowInOrder, LeadsTo}
use Rattle.elm_typing.specs.Rows.{extended, newest, removed, behind}
use Rattle.elm_typing.proofs.LabelOrder.{decided, bytes_eq_itself, bytes_eq_same, at_most_trans, at_most_before, either_before, after_asymmetric}
use Rattle.elm_typing.proofs.RowAlgebra.{front, past}

-- what may stand in front of a row with a new field may stand in front of the field
leads-field : (m l : List ℕ) (t : Ground) (q : Row) → LeadsTo m (extended l t q) → is_after m l ≡ false
leads-field m l t (Ends rest) h = h
leads-field m l t (Field o v q) h =
    elim (decided (is_after l o)) as (λ _. is_after m l ≡ false) [
      | inl after ↦
          let k = subst (LeadsTo m) (past l t o v q after) h in
          at_most_trans m o l k (after_asymmetric o l after)
      | inr not ↦ subst (LeadsTo m) (front l t o v q not) h
    ]

-- and in front of the row
leads-row : (m l : List ℕ) (t : Ground) (q : Row) → LeadsTo m (extended l t q) → LeadsTo m q
leads-row m l t (Ends rest) h = tt
leads-row m l t (Field o v q) h =
    elim (decided (is_after l o)) as (λ _. is_after m o ≡ false) [
      | inl after ↦ subst (LeadsTo m) (past l t o v q after) h
      | inr not ↦ at_most_trans m l o (leads-field m l t (Field o v q) h) not
    ]

in_front : (l : List ℕ) (t : Ground) (r : Row) → LeadsTo l r → extended l t r ≡ Field l t r
in_front l t (Ends rest) h = refl
in_front l t (Field o v r) h = front l t o v r h

pub record Newest (l : List ℕ) (t : Ground) (r : Row) : Type 0 where
  pub rest : Row
  pub taken : removed l r ≡ Some rest
  pub is : r ≡ extended l t rest
  pub ordered : RowInOrder rest

-- a row that has a field of the label is that field over another row
pub newest-is : (l : List ℕ) (t : Ground) (r : Row) → RowInOrder r → newest l r ≡ Some t → Newest l t r
newest-is l t (Ends rest) h e = absurd (cc e)
newest-is l t (Field m u r) h e =
    elim (decided (bytes_eq l m)) as (λ _. Newest l t (Field m u r)) [
      | inl same ↦
          let em = bytes_eq_same l m same in
          let f : (if true then Some u else newest l r) ≡ Some t = subst (λ b. (if b then Some u else newest l r) ≡ Some t) same e in
          let et : u ≡ t = cc f in
          record {
            rest = r;
            taken = ap (λ b. if b then Some r else behind m u (removed l r)) same;
            is = ap (λ n. Field n u r) (sym em) ∙ ap (λ (v : Ground). Field l v r) et ∙ sym (in_front l t r (subst (λ n. LeadsTo n r) (sym em) h.1));
            ordered = h.2;
          }
      | inr other ↦
          let f : newest l r ≡ Some t = subst (λ b. (if b then Some u else newest l r) ≡ Some t) other e in
          let k = newest-is l t r h.2 f in
          let leads = subst (LeadsTo m) k.is h.1 in
          let past_it = after l m other (leads-field m l t k.rest leads) in
          record {
            rest = Field m u k.rest;
            taken = ap (λ b. if b then Some r else behind m u (removed l r)) other ∙ ap (behind m u) k.taken;
            is = ap (Field m u) k.is ∙ sym (past l t m u k.rest past_it);
            ordered = (h.0, leads-row m l t k.rest leads, k.ordered);
          }
    ]
  where
    after : (l m : List ℕ) → bytes_eq l m ≡ false → is_after m l ≡ false → is_after l m ≡ true
    after l m other not =
        let differ : l ≢ m = λ same. absurd (let b = ap (bytes_eq l) (sym same) in let c = bytes_eq_itself l in cc (b, c, other)) in
        elim (either_before l m differ) as (λ _. is_after l m ≡ true) [
          | inl before ↦ absurd (cc (before, not))
          | inr behind_it ↦ behind_it
        ]

pub record Removed (l : List ℕ) (r q : Row) : Type 0 where
  pub type : Ground
  pub is : r ≡ extended l type q
  pub ordered : RowInOrder q

has-newest : (l : List ℕ) (r q : Row) → removed l r ≡ Some q → (t : Ground) × (newest l r ≡ Some t)
has-newest l (Ends rest) q e = absurd (cc e)
has-newest l (Field m u r) q e =
    elim (decided (bytes_eq l m)) as (λ _. (t : Ground) × (newest l (Field m u r) ≡ Some t)) [
      | inl same ↦ (u, ap (λ b. if b then Some u else newest l r) same)
      | inr other ↦
          let f : behind m u (removed l r) ≡ Some q = subst (λ b. (if b then Some r else behind m u (removed l r)) ≡ Some q) other e in
          let k = found (removed l r) (λ p e. has-newest l r p e) refl f in
          (k.0, ap (λ b. if b then Some u else newest l r) other ∙ k.1)
    ]
  where
    found : (o : Option Row) → ((p : Row) → removed l r ≡ Some p → (t : Ground) × (newest l r ≡ Some t)) → removed l r ≡ o → behind m u o ≡ Some q → (t : Ground) × (newest l r ≡ Some t)
    found None again eo f = absurd (cc f)
    found (Some p) again eo f = again p eo

-- what is left of a row without its newest field of a label
pub removed-is : (l : List ℕ) (r q : Row) → RowInOrder r → removed l r ≡ Some q → Removed l r q
removed-is l r q h e =
    let n = has-newest l r q e in
    let k = newest-is l n.0 r h n.1 in
    let f : Some k.rest ≡ Some q = sym k.taken ∙ e in
    let same : k.rest ≡ q = cc f in
    record {
      type = n.0;
      is = k.is ∙ ap (extended l n.0) same;
      ordered = subst RowInOrder same k.ordered;
    }
