use Rattle.std.proofs.Common.{◌≡◌, drop}
use Rattle.port_texts.specs.Given as spec
use Rattle.port_texts.proofs.given.+given.Given as goal

-- those that are left decide
abbrev pub invariant-all_given-loop-part : goal.invariant-all_given-loop-part
invariant-all_given-loop-part l = spec.all_given l.levels l.parts ≡ spec.all_given l.levels (drop l.part-index l.parts)

abbrev pub invariant-fields_given-loop-port : goal.invariant-fields_given-loop-port
invariant-fields_given-loop-port l = spec.fields_given l.levels l.fields ≡ spec.fields_given l.levels (drop l.port-index l.fields)
