use Rattle.std.proofs.Common.{◌≡◌, take}
use Rattle.alias_cycles.specs.Naming as spec
use Rattle.alias_cycles.proofs.naming.aliases.Given as goal

abbrev pub invariant-loop-home : goal.invariant-loop-home
invariant-loop-home l = l.found ≡ spec.aliases_in l.types (take l.home-index l.modules)
