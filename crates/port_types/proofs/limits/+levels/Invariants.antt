use Rattle.std.proofs.Common.{◌≡◌, take}
use Rattle.port_types.specs.Limits as spec
use Rattle.port_types.proofs.limits.+levels.Given as goal

abbrev pub invariant-all_fit-loop-part : goal.invariant-all_fit-loop-part
invariant-all_fit-loop-part l = l.whole ≡ spec.all_fit l.levels (take l.part-index l.parts)

abbrev pub invariant-fields_fit-loop-port : goal.invariant-fields_fit-loop-port
invariant-fields_fit-loop-port l = l.whole ≡ spec.fields_fit l.levels (take l.port-index l.fields)
