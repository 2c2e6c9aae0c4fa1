-- Marking one definition more, or all of a group.
use Rattle.std.proofs.Common.{◌≡◌, ℕ, ◌+◌, ◌<◌, Bool, true, false, not, ◌&&◌, IsTrue, ◌↔◌, List, [], ◌∷◌, ◌++◌, length, get_or, set, take, sym, ◌∙◌, ap, subst, arith, ◌⊎◌, inl, inr, ⊎_elim}
use Rattle.std.specs.List.{Contains, filter, range_with_len}
use Rattle.std.proofs.lemmas.Bool.{cases_eq, false≢true, not-true, not_from_false, not_from_true, and_parts, and_from, false_from_ne_true}
use Rattle.std.proofs.lemmas.List.{get_or-set_same, get_or-set_other, take_more}
use Rattle.std.proofs.lemmas.List.Elements.{Contains-push, Contains-push_cases, Contains-append_left, Contains-append_right, Contains-append_cases}
use Rattle.bit_rows.specs.Table.{Table, bit_of}
use Rattle.module_groups.specs.Search.{is_taken, waits_for}
use Rattle.module_groups.proofs.Grouping.{AreMarked}
use Rattle.module_groups.proofs.Members.{counts_less, range_has}

-- the marks now are those of before, and those of the members
abbrev pub MarksAlso : List Bool → List ℕ → List Bool → Type 0
MarksAlso old members new = (a : ℕ) → IsTrue (is_taken new a) ↔ (IsTrue (is_taken old a) ⊎ Contains members a)

pub mark_more : (old now : List Bool) (members : List ℕ) (i : ℕ) → i < length members → get_or members i 0 < length now →
    MarksAlso old (take i members) now → MarksAlso old (take (i + 1) members) (set now (get_or members i 0) true)
mark_more old now members i in' fits so = λ a.
    let m = get_or members i 0 in
    let more : take (i + 1) members ≡ take i members ++ m ∷ [] = take_more members i 0 in' in
    let here : is_taken (set now m true) m ≡ true = get_or-set_same now m true false fits in
    rw more (
      λ h.
          ⊎_elim (λ (e : a ≡ m). inr (subst (λ (x : ℕ). Contains (take i members ++ m ∷ []) x) (sym e) (Contains-push (take i members) m)))
          (λ (ne : a ≡ m → ⊥).
          ⊎_elim (λ (was : IsTrue (is_taken old a)). inl was)
          (λ (in' : Contains (take i members) a). inr (Contains-append_left (take i members) (m ∷ []) a in'))
          ((so a).0 (sym (get_or-set_other now m a true false ne) ∙ h))) (cases_eq a m),
      λ h.
          ⊎_elim (λ (e : a ≡ m). ap (is_taken (set now m true)) e ∙ here)
          (λ (ne : a ≡ m → ⊥).
          get_or-set_other now m a true false ne
          ∙ (so a).1
          (⊎_elim (λ (was : IsTrue (is_taken old a)). inl was)
          (λ (in' : Contains (take i members ++ m ∷ []) a).
          ⊎_elim (λ (before : Contains (take i members) a). inr before) (λ (e : m ≡ a). absurd (ne (sym e)))
          (Contains-push_cases (take i members) m a in')) h)) (cases_eq a m),
    )

-- what is taken, with a group behind it, is marked
pub AreMarked-more : (old new : List Bool) (taken group : List ℕ) → AreMarked old taken → MarksAlso old group new → AreMarked new (taken ++ group)
AreMarked-more old new taken group marked so = λ a. (
  λ h. ⊎_elim (λ (was : IsTrue (is_taken old a)). Contains-append_left taken group a ((marked a).0 was))
      (λ (in' : Contains group a). Contains-append_right taken group a in') ((so a).0 h),
  λ h. (so a).1 (⊎_elim (λ (was : Contains taken a). inl ((marked a).1 was)) (λ (in' : Contains group a). inr in') (Contains-append_cases taken group a h)),
)

-- how many definitions aren't taken
abbrev pub left_of : ℕ → List Bool → ℕ
left_of count marks = length (filter (λ a. not (is_taken marks a)) (range_with_len 0 count))

pub left_less : (count : ℕ) (old new : List Bool) (group : List ℕ) (a : ℕ) → a < count → is_taken old a ≡ false → Contains group a →
    MarksAlso old group new → left_of count new < left_of count old
left_less count old new group a in' left has so =
    counts_less (λ x. not (is_taken new x)) (λ x. not (is_taken old x))
    (λ x h. not_from_false (is_taken old x)
    (false_from_ne_true (is_taken old x) (λ (was : is_taken old x ≡ true). false≢true (sym (not-true (is_taken new x) h) ∙ (so x).1 (inl was)))))
    (range_with_len 0 count) a (range_has 0 count a (omega arith) (omega (arith, in')))
    (not_from_true (is_taken new a) ((so a).1 (inr has))) (not_from_false (is_taken old a) left)

-- who waited for nothing still waits for nothing
pub waits_no_more : (reached : Table) (old new : List Bool) (group : List ℕ) (a c : ℕ) → MarksAlso old group new →
    waits_for reached old a c ≡ false → waits_for reached new a c ≡ false
waits_no_more reached old new group a c so none =
    false_from_ne_true (waits_for reached new a c) (λ (h : waits_for reached new a c ≡ true).
    let one = and_parts (bit_of reached a c) (not (bit_of reached c a) && not (is_taken new c)) h in
    let two = and_parts (not (bit_of reached c a)) (not (is_taken new c)) one.1 in
    let left : is_taken old c ≡ false =
    false_from_ne_true (is_taken old c) (λ (was : is_taken old c ≡ true). false≢true (sym (not-true (is_taken new c) two.1) ∙ (so c).1 (inl was))) in
    false≢true (sym none ∙ and_from (bit_of reached a c) (not (bit_of reached c a) && not (is_taken old c)) one.0
    (and_from (not (bit_of reached c a)) (not (is_taken old c)) two.0 (not_from_false (is_taken old c) left))))
