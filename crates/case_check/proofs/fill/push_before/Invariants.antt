use Rattle.std.proofs.Common.{◌≡◌, ◌++◌, map, take}
use Rattle.case_check.specs.Shapes.{AndShape}
use Rattle.case_check.specs.Trees.{shape_of, shapes_of}
use Rattle.case_check.proofs.fill.push_before.Given as goal

abbrev pub invariant-loop-first : goal.invariant-loop-first
invariant-loop-first l =
    map shapes_of l.out ≡ map shapes_of l.fn.out ++ map (λ z. AndShape z (shapes_of l.others)) (map shape_of (take l.first-index l.firsts))
