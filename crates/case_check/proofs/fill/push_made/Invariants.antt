use Rattle.std.proofs.Common.{◌≡◌, ◌++◌, map, take}
use Rattle.case_check.specs.Shapes.{Shape}
use Rattle.case_check.specs.Trees.{shape_of, shapes_of}
use Rattle.case_check.proofs.fill.push_made.Given as goal

abbrev pub invariant-loop-list : goal.invariant-loop-list
invariant-loop-list l = map shape_of l.out ≡ map shape_of l.fn.out ++ map (Shape.Made l.name) (map shapes_of (take l.list-index l.lists))
