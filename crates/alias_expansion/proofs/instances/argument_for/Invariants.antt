use Rattle.std.proofs.Common.{◌≡◌, length}
use Rattle.alias_expansion.specs.Instances as spec
use Rattle.alias_expansion.proofs.instances.argument_for.Given as goal

-- the argument is among what is left
abbrev pub invariant-loop-left : goal.invariant-loop-left
invariant-loop-left l = spec.argument_for l.left l.rest l.name ≡ spec.argument_for l.parameters l.arguments l.name

abbrev pub decreases-loop-left : goal.decreases-loop-left
decreases-loop-left l = length l.left
