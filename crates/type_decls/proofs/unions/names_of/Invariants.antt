use Rattle.std.proofs.Common.{◌≡◌, take}
use Rattle.type_decls.specs.Unions as spec
use Rattle.type_decls.proofs.unions.names_of.Given as goal

abbrev pub invariant-loop-spot : goal.invariant-loop-spot
invariant-loop-spot l = l.names ≡ spec.names_of (take l.spot-index l.spots)
