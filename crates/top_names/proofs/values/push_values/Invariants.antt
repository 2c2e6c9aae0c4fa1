use Rattle.std.proofs.Common.{◌≡◌, ◌++◌, take, length}
use Rattle.top_names.specs.Names as spec
use Rattle.top_names.proofs.values.push_values.Given as goal

abbrev pub invariant-loop-group : goal.invariant-loop-group
invariant-loop-group l = l.out ≡ l.fn.out ++ spec.values_from l.modules (length l.fn.out) (spec.values_in (take l.group-index l.groups))
