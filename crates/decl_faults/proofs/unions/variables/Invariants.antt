use Rattle.std.proofs.Common.{◌≡◌, map, take}
use Rattle.elm_base.specs.declared.tree.TypeTree.TheVariants as t
use Rattle.decl_faults.proofs.unions.variables.Given as goal

abbrev pub invariant-loop-spot : goal.invariant-loop-spot
invariant-loop-spot l = l.made ≡ map (λ spot. t.Variable spot.at spot.name) (take l.spot-index l.parameters)
