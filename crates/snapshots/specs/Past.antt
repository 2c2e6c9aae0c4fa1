-- What the state and the marks of a replay stand for.
use Rattle.std.specs.Prelude.{◌≡◌, ℕ, ◌+◌, ◌-◌, ◌^◌, List, take, min}

-- The mark is good, and these events are its list.
pub record StandsFor {M C : Type 0} (good : M → Type 0) (list_of : M → List C) (mark : M) (events : List C) : Type 0 where
  pub is_good : good mark
  pub listed : list_of mark ≡ events

-- One step more in a count that ends at the last number of 64 bits, and stands still there.
abbrev pub one_more : ℕ → ℕ
one_more taken = min (taken + 1) (2 ^ 64 - 1)

-- Each mark of a prefix of these events still stands for it.
abbrev pub KeepsPrefixes : {M C : Type 0} → List C → (M → List C → Type 0) → (M → List C → Type 0) → Type 0
KeepsPrefixes events before after = (m : _) (n : ℕ) → before m (take n events) → after m (take n events)
