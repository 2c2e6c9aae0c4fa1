use Rattle.std.proofs.Common.{◌≡◌}
use Rattle.port_literals.specs.Reader.{read_step}
use Rattle.port_literals.specs.Steps.{readers}
use Rattle.port_literals.proofs.value.unbracketed.Given as goal

-- what stands in the brackets is read in place of the whole
abbrev pub invariant-loop-left : goal.invariant-loop-left
invariant-loop-left l = read_step (readers l.port) l.room l.text ≡ read_step (readers l.port) l.left l.within

abbrev pub decreases-loop-left : goal.decreases-loop-left
decreases-loop-left l = l.left
