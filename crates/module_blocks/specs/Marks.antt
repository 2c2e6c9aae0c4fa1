-- What is set in a table besides what was set.
use Rattle.std.specs.Prelude.{ℕ, IsTrue, ◌↔◌, ◌⊎◌}
use Rattle.bit_rows.specs.Table.{Table, bit_of}

-- exactly the bits of the old table are set in the new one, and those of which this holds
abbrev pub Adds : (ℕ → ℕ → Type 0) → Table → Table → Type 0
Adds set old new = (a b : ℕ) → IsTrue (bit_of new a b) ↔ (set a b ⊎ IsTrue (bit_of old a b))
