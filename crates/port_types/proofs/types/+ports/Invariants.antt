use Rattle.std.proofs.Common.{◌≡◌, ◌++◌, take, drop, Some, []}
use Rattle.port_types.specs.Fields as fields
use Rattle.port_types.specs.PortTypes as spec
use Rattle.port_types.proofs.types.+ports.Given as goal

abbrev pub invariant-push_parts-loop-tree : goal.invariant-push_parts-loop-tree
invariant-push_parts-loop-tree l = record {
  whole : l.whole ≡ spec.all_there (spec.port_types (take l.tree-index l.trees));
  grown : l.out ≡ l.fn.out ++ spec.found_among (spec.port_types (take l.tree-index l.trees));
}

-- what is left is placed among what was placed so far
abbrev pub invariant-record_type-loop-label : goal.invariant-record_type-loop-label
invariant-record_type-loop-label l =
    fields.all_placed (Some l.placed.items) (spec.port_fields (drop l.label-index l.fields)) ≡ fields.all_placed (Some []) (spec.port_fields l.fields)
