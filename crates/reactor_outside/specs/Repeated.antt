use Rattle.std.specs.Prelude.{ℕ, zero, suc, List, [], ◌++◌, take}

-- a piece several times, one after the other
abbrev pub copies : List ℕ → ℕ → List ℕ
copies piece zero = []
copies piece (suc count) = piece ++ copies piece count

-- the first bytes, as many as are said, of a piece that is repeated without end
unfoldable pub repeated : List ℕ → ℕ → List ℕ
repeated piece total = take total (copies piece total)
