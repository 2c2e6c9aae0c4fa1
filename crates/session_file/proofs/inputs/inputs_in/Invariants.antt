use Rattle.std.proofs.Common.{map, take}
use Rattle.serde_json.specs.View.{view}
use Rattle.session_file.specs.Sessions as spec
use Rattle.session_file.proofs.inputs.inputs_in.Given as goal

abbrev pub invariant-loop-value : goal.invariant-loop-value
invariant-loop-value l = record {
  read : spec.Each spec.InputIs (map view (take l.value-index l.values)) l.inputs.items;
  ports : spec.ArePorts l.inputs.items;
}
