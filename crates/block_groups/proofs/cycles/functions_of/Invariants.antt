use Rattle.std.proofs.Common.{◌≡◌, take}
use Rattle.block_groups.specs.Cycles as spec
use Rattle.block_groups.proofs.cycles.functions_of.Given as goal

abbrev pub invariant-loop-defined : goal.invariant-loop-defined
invariant-loop-defined l = l.functions ≡ spec.functions_of (take l.defined-index l.definitions)
