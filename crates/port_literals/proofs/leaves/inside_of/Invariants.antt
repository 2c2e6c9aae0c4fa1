use Rattle.std.proofs.Common.{◌≡◌, false, length}
use Rattle.port_values.specs.Leaves.{inside_of}
use Rattle.port_literals.proofs.Turns.{front_of}
use Rattle.port_literals.proofs.leaves.inside_of.Given as goal

-- what is left goes behind what was read
abbrev pub invariant-loop-byte : goal.invariant-loop-byte
invariant-loop-byte l = inside_of false l.text ≡ front_of l.bytes.items (inside_of false l.left)

abbrev pub decreases-loop-byte : goal.decreases-loop-byte
decreases-loop-byte l = length l.left
