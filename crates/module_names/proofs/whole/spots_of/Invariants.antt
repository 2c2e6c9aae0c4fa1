use Rattle.std.proofs.Common.{◌≡◌, ◌++◌, map, take}
use Rattle.module_names.specs.Named as spec
use Rattle.module_names.proofs.whole.spots_of.Given as goal

abbrev pub invariant-loop-top : goal.invariant-loop-top
invariant-loop-top l = l.spots ≡ map (λ top. top.spot) (take l.top-index l.tops)
