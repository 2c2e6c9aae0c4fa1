use Rattle.std.proofs.Common.{◌≡◌, map, take}
use Rattle.serde_json.specs.View.{view}
use Rattle.session_file.specs.Written as spec
use Rattle.session_file.proofs.writing.input_values.Given as goal

abbrev pub invariant-loop-input : goal.invariant-loop-input
invariant-loop-input l = map view l.values.items ≡ map spec.input_data (take l.input-index l.inputs)
