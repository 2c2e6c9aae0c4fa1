use Rattle.std.proofs.Common.{◌≡◌, ◌+◌, map, take, length}
use Rattle.block_sizes.specs.BlockSizes.{most_definitions, present, defined_at}
use Rattle.block_sizes.proofs.sizes.over.Given as goal

-- so many more may come
abbrev pub invariant-loop-declaration : goal.invariant-loop-declaration
invariant-loop-declaration l = l.left + length (present (map defined_at (take l.declaration-index l.declarations))) ≡ most_definitions
