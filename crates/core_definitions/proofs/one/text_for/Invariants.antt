use Rattle.std.proofs.Common.{◌≡◌, length}
use Rattle.core_definitions.specs.Definitions as spec
use Rattle.core_definitions.proofs.one.text_for.Given as goal

-- the first of what is left is the first of all
abbrev pub invariant-loop-left : goal.invariant-loop-left
invariant-loop-left l = spec.text_for l.name l.left ≡ spec.text_for l.name l.declarations

abbrev pub decreases-loop-left : goal.decreases-loop-left
decreases-loop-left l = length l.left
