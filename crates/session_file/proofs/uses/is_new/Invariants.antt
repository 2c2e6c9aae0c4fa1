use Rattle.std.proofs.Common.{◌≡◌, drop}
use Rattle.port_literals.specs.Ports as ports
use Rattle.session_file.proofs.uses.is_new.Given as goal

-- those that are left decide
abbrev pub invariant-loop-input : goal.invariant-loop-input
invariant-loop-input l = ports.is_new l.name l.inputs ≡ ports.is_new l.name (drop l.input-index l.inputs)
