-- Places in a file, in order.
use Rattle.std.proofs.Common.{◌≡◌, ◌<◌, Bool, true, false, ◌&&◌, nat_lt, nat_eq, IsTrue, sym, ◌∙◌, arith, ◌⊎◌, inl, inr, ⊎_elim}
use Rattle.std.proofs.lemmas.Bool.{or_cases, or_left, or_right, and_parts, and_from, eqb-true, eq-eqb, ltb-true, lt-ltb, ltb-false, cases_Bool, false≢true}
use Rattle.elm_base.specs.declared.token.At.{At}
use Rattle.module_blocks.specs.Refers.{comes_before}

abbrev pub Before : At → At → Type 0
Before a b = (a.line < b.line) ⊎ ((a.line ≡ b.line) × (a.column < b.column))

pub before_from : (a b : At) → IsTrue (comes_before a b) → Before a b
before_from a b h =
    ⊎_elim (λ (lower : nat_lt a.line b.line ≡ true). inl (ltb-true a.line b.line lower))
    (λ (both : (nat_eq a.line b.line && nat_lt a.column b.column) ≡ true).
    let parts = and_parts (nat_eq a.line b.line) (nat_lt a.column b.column) both in
    inr (eqb-true a.line b.line parts.0, ltb-true a.column b.column parts.1))
    (or_cases (nat_lt a.line b.line) (nat_eq a.line b.line && nat_lt a.column b.column) h)

pub before_to : (a b : At) → Before a b → IsTrue (comes_before a b)
before_to a b h =
    ⊎_elim (λ (lower : a.line < b.line).
    or_left (nat_lt a.line b.line) (nat_eq a.line b.line && nat_lt a.column b.column) (lt-ltb a.line b.line lower))
    (λ (both : (a.line ≡ b.line) × (a.column < b.column)).
    or_right (nat_lt a.line b.line) (nat_eq a.line b.line && nat_lt a.column b.column)
    (and_from (nat_eq a.line b.line) (nat_lt a.column b.column) (eq-eqb a.line b.line both.0) (lt-ltb a.column b.column both.1))) h

pub never_both : (b : Bool) → b ≡ true → b ≡ false → ⊥
never_both b on off = false≢true (sym off ∙ on)

-- what stands before a place stands before each that this one comes before
pub before_next : (a b c : At) → IsTrue (comes_before a b) → IsTrue (comes_before b c) → IsTrue (comes_before a c)
before_next a b c h k =
    before_to a c
    (⊎_elim (λ (lower : a.line < b.line).
    ⊎_elim (λ (next : b.line < c.line). inl (omega (arith, lower, next)))
    (λ (both : (b.line ≡ c.line) × (b.column < c.column)). inl (omega (arith, lower, both.0))) (before_from b c k))
    (λ (same : (a.line ≡ b.line) × (a.column < b.column)).
    ⊎_elim (λ (next : b.line < c.line). inl (omega (arith, same.0, next)))
    (λ (both : (b.line ≡ c.line) × (b.column < c.column)). inr (omega (arith, same.0, both.0), omega (arith, same.1, both.1))) (before_from b c k))
    (before_from a b h))

on_one_line : (a b : At) → a.line ≡ b.line → Before a b ⊎ (Before b a ⊎ ((a.line ≡ b.line) × (a.column ≡ b.column)))
on_one_line a b same =
    ⊎_elim (λ (g : nat_lt a.column b.column ≡ true). inl (inr (same, ltb-true a.column b.column g)))
    (λ (g : nat_lt a.column b.column ≡ false).
    ⊎_elim (λ (h : nat_lt b.column a.column ≡ true). inr (inl (inr (sym same, ltb-true b.column a.column h))))
    (λ (h : nat_lt b.column a.column ≡ false). inr (inr (same, omega (arith, ltb-false a.column b.column g, ltb-false b.column a.column h))))
    (cases_Bool (nat_lt b.column a.column)))
    (cases_Bool (nat_lt a.column b.column))

-- one of two places stands first, or they are one
pub three_ways : (a b : At) → Before a b ⊎ (Before b a ⊎ ((a.line ≡ b.line) × (a.column ≡ b.column)))
three_ways a b =
    ⊎_elim (λ (e : nat_lt a.line b.line ≡ true). inl (inl (ltb-true a.line b.line e)))
    (λ (e : nat_lt a.line b.line ≡ false).
    ⊎_elim (λ (f : nat_lt b.line a.line ≡ true). inr (inl (inl (ltb-true b.line a.line f))))
    (λ (f : nat_lt b.line a.line ≡ false). on_one_line a b (omega (arith, ltb-false a.line b.line e, ltb-false b.line a.line f)))
    (cases_Bool (nat_lt b.line a.line)))
    (cases_Bool (nat_lt a.line b.line))

-- a place before another stands before each that isn't before that one
pub before_behind : (a b c : At) → IsTrue (comes_before a b) → comes_before c b ≡ false → IsTrue (comes_before a c)
before_behind a b c h not' =
    ⊎_elim (λ (lower : Before b c). before_next a b c h (before_to b c lower))
    (λ (other : Before c b ⊎ ((b.line ≡ c.line) × (b.column ≡ c.column))).
    ⊎_elim (λ (higher : Before c b). absurd (never_both (comes_before c b) (before_to c b higher) not'))
    (λ (same : (b.line ≡ c.line) × (b.column ≡ c.column)).
    before_to a c
    (⊎_elim (λ (lower : a.line < b.line). inl (omega (arith, lower, same.0)))
    (λ (both : (a.line ≡ b.line) × (a.column < b.column)). inr (omega (arith, both.0, same.0), omega (arith, both.1, same.1))) (before_from a b h))) other)
    (three_ways b c)

not_itself : (a : At) → Before a a → ⊥
not_itself a h =
    ⊎_elim (λ (lower : a.line < a.line). absurd (omega (arith, lower)))
    (λ (both : (a.line ≡ a.line) × (a.column < a.column)). absurd (omega (arith, both.1))) h

-- of two places one isn't before the other
pub one_way : (a b : At) → IsTrue (comes_before a b) → comes_before b a ≡ false
one_way a b h =
    ⊎_elim (λ (e : comes_before b a ≡ true). absurd (not_itself a (before_from a a (before_next a b a h e))))
    (λ (e : comes_before b a ≡ false). e) (cases_Bool (comes_before b a))

pub never_itself : (a : At) → comes_before a a ≡ false
never_itself a = ⊎_elim (λ (e : comes_before a a ≡ true). one_way a a e) (λ (e : comes_before a a ≡ false). e) (cases_Bool (comes_before a a))
