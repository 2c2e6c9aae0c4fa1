use Rattle.std.proofs.Common.{◌≡◌}
use Rattle.case_check.specs.Shapes.{holes}
use Rattle.case_check.specs.Trees.{shapes_of}
use Rattle.case_check.proofs.skeleton.some_holes.Given as goal

abbrev pub invariant-loop-number : goal.invariant-loop-number
invariant-loop-number l = shapes_of l.made ≡ holes l.number
