use Rattle.std.proofs.Common.{take}
use Rattle.code_lower.specs.Whole.{Grows}
use Rattle.code_lower.proofs.whole.push_group.Given as goal

abbrev pub invariant-loop-definition : goal.invariant-loop-definition
invariant-loop-definition l = Grows (take l.definition-index l.group) l.fn.code l.code
