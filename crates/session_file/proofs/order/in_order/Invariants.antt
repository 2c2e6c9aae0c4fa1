use Rattle.std.proofs.Common.{◌≡◌, ◌≤◌, map, drop}
use Rattle.serde_json.specs.View.{view}
use Rattle.session_file.specs.Sessions as spec
use Rattle.session_file.proofs.order.in_order.Given as goal

-- those that are left decide
abbrev pub invariant-loop-value : goal.invariant-loop-value
invariant-loop-value l = record {
  order : spec.in_order l.count 0 (map view l.values) ≡ spec.in_order l.count l.used (map view (drop l.value-index l.values));
  few : l.used ≤ l.value-index;
}
