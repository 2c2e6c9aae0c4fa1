use Rattle.std.proofs.Common.{◌≤◌, length, drop}
use Rattle.code_lower.specs.Laying.{Wraps, lambdas_for}
use Rattle.code_lower.proofs.terms.push_parameters.Given as goal

-- the parameters from here on stand round the body
abbrev pub invariant-loop-count : goal.invariant-loop-count
invariant-loop-count l = (l.count ≤ length l.parameters) × Wraps l.fn.out l.out l.body l.at (lambdas_for (drop l.count l.parameters))

abbrev pub decreases-loop-count : goal.decreases-loop-count
decreases-loop-count l = l.count
