use Rattle.std.proofs.Common.{take}
use Rattle.block_groups.specs.Growing.{IsFaultOf}
use Rattle.block_groups.specs.Turns.{Appends, InTurn}
use Rattle.block_groups.proofs.cycles.push_cycles.Given as goal

abbrev pub invariant-loop-group : goal.invariant-loop-group
invariant-loop-group l = Appends (InTurn (IsFaultOf l.definitions) (take l.group-index l.groups)) l.fn.out l.out
