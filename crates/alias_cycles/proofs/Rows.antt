-- The rows of the aliases below a number, and one more.
use Rattle.std.proofs.Common.{◌≡◌, ℕ, ◌+◌, ◌<◌, ◌≤◌, Bool, IsTrue, false, ◌↔◌, List, length, slice_get, Option, Some, None, refl, sym, ◌∙◌, ap, subst, arith, ◌⊎◌, inl, inr, ⊎_elim}
use Rattle.std.proofs.lemmas.Bool.{cases_eq, cases_lt, false≢true}
use Rattle.std.proofs.lemmas.Option.{slice_get_past}
use Rattle.module_groups.specs.Groups.{References}
use Rattle.module_blocks.proofs.Adding.{Targets}
use Rattle.alias_cycles.specs.declared.texts.AliasText.{AliasText}
use Rattle.alias_cycles.specs.Cycles.{names_one, refers}

abbrev pub Below : References → ℕ → ℕ → ℕ → Type 0
Below p below x y = (x < below) × IsTrue (p x y)

pub one_row_more : (p : References) (a : ℕ) → (x y : ℕ) → Below p (a + 1) x y ↔ (Below p a x y ⊎ ((x ≡ a) × IsTrue (p a y)))
one_row_more p a x y = (
  λ (low, holds).
      ⊎_elim (λ (e : x ≡ a). inr (e, subst (λ (z : ℕ). IsTrue (p z y)) e holds)) (λ (ne : x ≡ a → ⊥). inl (omega (arith, low, ne), holds)) (cases_eq x a),
  λ h.
      ⊎_elim (λ (t : Below p a x y). (omega (arith, t.0), t.1))
      (λ (both : (x ≡ a) × IsTrue (p a y)). (omega (arith, both.0), subst (λ (z : ℕ). IsTrue (p z y)) (sym both.0) both.1)) h,
)

-- the first of two that refer is an alias
pub first_within : (aliases : List AliasText) (x y : ℕ) → IsTrue (refers aliases x y) → x < length aliases
first_within aliases x y h =
    ⊎_elim (λ (in' : x < length aliases). in')
    (λ (out : length aliases ≤ x).
    absurd (false≢true (sym (ap (λ (alias : Option AliasText). names_one alias (slice_get aliases y)) (slice_get_past aliases x out)) ∙ h))) (cases_lt x (length aliases))

none_named : (alias : Option AliasText) → names_one alias None ≡ false
none_named None = refl
none_named (Some alias) = refl

-- the second one too
pub second_within : (aliases : List AliasText) (x y : ℕ) → IsTrue (refers aliases x y) → y < length aliases
second_within aliases x y h =
    ⊎_elim (λ (in' : y < length aliases). in')
    (λ (out : length aliases ≤ y).
    absurd (false≢true (sym (ap (names_one (slice_get aliases x)) (slice_get_past aliases y out) ∙ none_named (slice_get aliases x)) ∙ h)))
    (cases_lt y (length aliases))

pub all_named : (aliases : List AliasText) (a n : ℕ) → length aliases ≤ n → (x y : ℕ) →
    ((x ≡ a) × IsTrue (refers aliases a y)) ↔ Targets a (refers aliases a) n x y
all_named aliases a n past x y = (
  λ (at, holds). (at, omega (arith, second_within aliases a y holds, past), holds),
  λ t. (t.0, t.2),
)

pub all_rows : (aliases : List AliasText) (n : ℕ) → length aliases ≤ n → (x y : ℕ) → IsTrue (refers aliases x y) ↔ Below (refers aliases) n x y
all_rows aliases n past x y = (
  λ h. let in' = first_within aliases x y h in (omega (arith, in', past), h),
  λ t. t.1,
)
