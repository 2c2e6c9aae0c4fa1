-- Whether something holds of a number of a range.
use Rattle.std.proofs.Common.{◌≡◌, ℕ, zero, suc, ◌+◌, ◌<◌, ◌≤◌, Bool, true, false, ◌||◌, refl, sym, ◌∙◌, ap, arith, ⊎_elim}
use Rattle.std.specs.List.{list_any, range_with_len}
use Rattle.std.proofs.lemmas.Bool.{cases_eq, or_left, or_right}

pub any_true : (p : ℕ → Bool) (from len a : ℕ) → from ≤ a → a < from + len → p a ≡ true → list_any p (range_with_len from len) ≡ true
any_true p from zero a low below holds = absurd (omega (arith, low, below))
any_true p from (suc len) a low below holds =
    ⊎_elim (λ (e : from ≡ a). or_left (p from) (list_any p (range_with_len (from + 1) len)) (ap p e ∙ holds))
    (λ (ne : from ≡ a → ⊥).
    or_right (p from) (list_any p (range_with_len (from + 1) len)) (any_true p (from + 1) len a (omega (arith, low, ne)) (omega (arith, below)) holds))
    (cases_eq from a)

pub any_false : (p : ℕ → Bool) (from len : ℕ) → ((k : ℕ) → from ≤ k → k < from + len → p k ≡ false) → list_any p (range_with_len from len) ≡ false
any_false p from zero none = refl
any_false p from (suc len) none =
    ap (λ (b : Bool). b || list_any p (range_with_len (from + 1) len)) (none from (omega arith) (omega arith))
    ∙ any_false p (from + 1) len (λ k low below. none k (omega (arith, low)) (omega (arith, below)))
