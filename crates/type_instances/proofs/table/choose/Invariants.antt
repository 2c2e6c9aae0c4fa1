use Rattle.std.proofs.Common.{take}
use Rattle.type_instances.proofs.Adding.{Choosing}
use Rattle.type_instances.proofs.table.choose.Given as goal

abbrev pub invariant-loop-used : goal.invariant-loop-used
invariant-loop-used l = Choosing l.uses (take l.used-index l.uses) l.fn.conditions l.conditions l.table
