use Rattle.std.proofs.Common.{◌≡◌, take}
use Rattle.type_names.specs.Known as spec
use Rattle.type_names.proofs.known.known_types.Given as goal

abbrev pub invariant-loop-home : goal.invariant-loop-home
invariant-loop-home l = l.known ≡ spec.known_in (take l.home-index l.modules)
