use Rattle.std.proofs.Common.{◌<◌}
use Rattle.std.specs.Prelude.{All}
use Rattle.reactor_tests.proofs.runs.sizes_of.Given as goal

abbrev pub invariant-loop : goal.invariant-loop
invariant-loop l = All (λ n. 0 < n) l.sizes.items
