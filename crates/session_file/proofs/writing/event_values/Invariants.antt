use Rattle.std.proofs.Common.{◌≡◌, map, take}
use Rattle.serde_json.specs.View.{view}
use Rattle.session_file.specs.Written as spec
use Rattle.session_file.proofs.writing.event_values.Given as goal

abbrev pub invariant-loop-event : goal.invariant-loop-event
invariant-loop-event l = map view l.values.items ≡ map (spec.event_data l.inputs) (take l.event-index l.events)
