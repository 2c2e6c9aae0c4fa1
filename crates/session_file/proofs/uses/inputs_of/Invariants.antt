use Rattle.std.proofs.Common.{◌≡◌, drop}
use Rattle.session_file.specs.Written as spec
use Rattle.session_file.proofs.uses.inputs_of.Given as goal

-- those that are left add the rest
abbrev pub invariant-loop-event : goal.invariant-loop-event
invariant-loop-event l = spec.inputs_of l.events ≡ spec.used_by l.inputs.items (drop l.event-index l.events)
