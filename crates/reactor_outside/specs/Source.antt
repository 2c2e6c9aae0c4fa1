use Rattle.std.specs.Prelude.{◌≡◌, ◌≤◌, ◌<◌, ◌↔◌, ℕ, List, [], length, take, drop, Option, IfSome}
use Rattle.std.specs.Option.{option_map}

-- what is told of the bytes still to come, after n of them
abbrev pub after_bytes : ℕ → Option (List ℕ) → Option (List ℕ)
after_bytes n left = option_map (drop n) left

-- What stands in the slice after a read of n bytes: the next n bytes, where they are told.
abbrev pub HoldsNext : ℕ → Option (List ℕ) → List ℕ → Type 0
HoldsNext n left into = IfSome left (λ bytes. (n ≤ length bytes) × (take n into ≡ take n bytes))

-- A read into a slice that isn't empty gives no byte exactly where no byte is left, where that is told.
abbrev pub EndsExactly : ℕ → Option (List ℕ) → List ℕ → Type 0
EndsExactly n left into = 0 < length into → IfSome left (λ bytes. (n ≡ 0) ↔ (bytes ≡ []))
