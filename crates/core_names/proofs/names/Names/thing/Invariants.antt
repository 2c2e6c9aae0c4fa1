use Rattle.std.proofs.Common.{◌≡◌, length}
use Rattle.plain_form.specs.Naming.{thing_at}
use Rattle.core_names.proofs.names.Names.thing.Given as goal

-- the first of what is left is the first of all
abbrev pub invariant-loop-left : goal.invariant-loop-left
invariant-loop-left l = thing_at l.self.«module».now l.at l.left ≡ thing_at l.self.«module».now l.at l.self.meanings.now

abbrev pub decreases-loop-left : goal.decreases-loop-left
decreases-loop-left l = length l.left
