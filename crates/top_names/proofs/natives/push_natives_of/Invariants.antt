use Rattle.std.proofs.Common.{◌≡◌, ◌++◌, take}
use Rattle.std.specs.List.{flat_map}
use Rattle.top_names.specs.Names as spec
use Rattle.top_names.proofs.natives.push_natives_of.Given as goal

abbrev pub invariant-loop-declaration : goal.invariant-loop-declaration
invariant-loop-declaration l = l.out ≡ l.fn.out ++ flat_map (spec.native_of l.home.name) (take l.declaration-index l.declarations)
