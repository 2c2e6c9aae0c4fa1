use Rattle.std.proofs.Common.{◌≡◌, ◌++◌, map, take}
use Rattle.block_groups.specs.Placed as spec
use Rattle.block_groups.proofs.placed.push_groups.Given as goal

abbrev pub invariant-loop-group : goal.invariant-loop-group
invariant-loop-group l =
    l.out ≡ l.fn.out ++ map (λ group. spec.group_of l.«module» l.block l.definitions group.members) (take l.group-index l.groups)
