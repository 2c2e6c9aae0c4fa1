use Rattle.std.specs.Prelude.{ℕ, List, Option, Some, None}
use Rattle.reactor_outside.specs.declared.memory.Supply.{Supply}
use Rattle.reactor_outside.specs.declared.memory.Supply.TheVariants.{Pieces, Repeated}

-- the bytes that a supply still has, whichever way it keeps them
abbrev pub bytes_left : Supply → List ℕ
bytes_left (Pieces pieces) = pieces.left
bytes_left (Repeated left) = left

-- the sizes of its pieces, where it was given any
abbrev pub sizes_left : Supply → Option (List ℕ)
sizes_left (Pieces pieces) = Some pieces.sizes
sizes_left (Repeated left) = None
