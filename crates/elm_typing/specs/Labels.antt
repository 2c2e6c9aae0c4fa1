-- The order of labels, which is that of their bytes.
use Rattle.std.specs.Prelude.{ℕ, Bool, List}
use Rattle.std.specs.Cmp.Lexicographic.{slice_cmp}
use Rattle.std.specs.Ordering.{nat_cmp, is_gt}

-- the label comes after the other in the order of bytes
abbrev pub is_after : List ℕ → List ℕ → Bool
is_after label other = is_gt (slice_cmp nat_cmp label other)
