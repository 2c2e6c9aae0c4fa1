use Rattle.std.proofs.Common.{◌≡◌, ◌++◌, take}
use Rattle.std.specs.List.{flat_map}
use Rattle.type_names.specs.Known as spec
use Rattle.type_names.proofs.known.push_known.Given as goal

abbrev pub invariant-loop-declaration : goal.invariant-loop-declaration
invariant-loop-declaration l =
    l.out ≡ l.fn.out ++ flat_map (spec.known_by l.home.name l.home.exposes) (take l.declaration-index l.declarations)
