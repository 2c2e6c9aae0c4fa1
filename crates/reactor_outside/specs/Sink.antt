use Rattle.std.specs.Prelude.{◌≡◌, ◌++◌, ℕ, List, Option, take}
use Rattle.std.specs.Option.{option_map}

-- what is told of the bytes taken, after these were taken too
abbrev pub with_bytes : List ℕ → Option (List ℕ) → Option (List ℕ)
with_bytes more taken = option_map (λ bytes. bytes ++ more) taken

-- some first bytes of these were taken, and no others
abbrev pub TookPrefix : List ℕ → Option (List ℕ) → Option (List ℕ) → Type 0
TookPrefix bytes before after = (n : ℕ) × (after ≡ with_bytes (take n bytes) before)
