use Rattle.std.proofs.Common.{◌≡◌, ◌++◌, map, take}
use Rattle.module_tops.specs.Tops as spec
use Rattle.module_tops.specs.declared.top.Kind.TheVariants.{Constructor as Makes}
use Rattle.module_tops.proofs.defined.push_constructors.Given as goal

abbrev pub invariant-loop-constructor : goal.invariant-loop-constructor
invariant-loop-constructor l =
    l.out ≡ l.fn.out ++ map (λ constructor. spec.top_of (spec.spot_of constructor.at constructor.name) (Makes l.of)) (take l.constructor-index l.constructors)
