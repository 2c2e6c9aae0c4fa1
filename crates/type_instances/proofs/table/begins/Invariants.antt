use Rattle.std.proofs.Common.{◌≡◌, length}
use Rattle.typing_rules.specs.WrittenTypes.{begins}
use Rattle.type_instances.proofs.table.begins.Given as goal

-- the name begins with the letters where what is left of it begins with those that are left
abbrev pub invariant-loop-left : goal.invariant-loop-left
invariant-loop-left l = begins l.left l.rest ≡ begins l.letters l.name

abbrev pub decreases-loop-left : goal.decreases-loop-left
decreases-loop-left l = length l.left
