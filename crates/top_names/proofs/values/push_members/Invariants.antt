use Rattle.std.proofs.Common.{◌≡◌, ◌++◌, map, take, length}
use Rattle.top_names.specs.Names as spec
use Rattle.top_names.proofs.values.push_members.Given as goal

abbrev pub invariant-loop-at : goal.invariant-loop-at
invariant-loop-at l = l.out ≡ l.fn.out ++ spec.values_from l.modules (length l.fn.out) (map (λ at. (l.group.«module», at)) (take l.at-index l.members))
