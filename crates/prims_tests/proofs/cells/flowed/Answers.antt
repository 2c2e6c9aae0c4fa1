use Rattle.std.proofs.Common.{arith}
use Rattle.prims_tests.proofs.Small.{within_two}
use Rattle.prims_tests.proofs.cells.flowed.Goals as goal

pub flow-requires-clause-within : goal.flow-requires-clause-within
flow-requires-clause-within c = within_two c.args.direction c.args.first c.args.second (omega arith) (omega arith) (omega arith) (omega arith)
