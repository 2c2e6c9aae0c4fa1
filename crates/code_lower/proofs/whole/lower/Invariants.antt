use Rattle.std.proofs.Common.{take}
use Rattle.code_lower.specs.Whole.{IsSoFar, all_of}
use Rattle.code_lower.proofs.whole.lower.Given as goal

abbrev pub invariant-loop-group : goal.invariant-loop-group
invariant-loop-group l = IsSoFar (all_of (take l.group-index l.groups)) l.code
