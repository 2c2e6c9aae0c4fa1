use Rattle.std.specs.Prelude.{◌≡◌, ◌⊎◌, ◌<◌, ◌≤◌, ℕ, Result, Ok, Err}

-- A count of failures went from one number to another that tells of a failure.
-- At the last number of 64 bits it can't rise, so there it may stand still.
pub record Rose (before after : ℕ) : Type 0 where
  pub never_falls : before ≤ after
  pub shows : (before < after) ⊎ (after ≡ 18446744073709551615)

-- A failure shows in the count, and every other answer leaves it.
abbrev pub Counts : {T E : Type 0} → ℕ → ℕ → Result T E → Type 0
Counts before after (Ok value) = after ≡ before
Counts before after (Err failed) = Rose before after
