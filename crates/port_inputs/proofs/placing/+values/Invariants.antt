use Rattle.std.proofs.Common.{◌-◌, length, map, take, drop}
use Rattle.port_inputs.specs.Placed.{list_of, placed, placed_field, IsPlaced, Grows, ArePlaced, FieldsPlaced}
use Rattle.port_inputs.proofs.placing.+values.Given as goal

-- the last parts stand as a list
abbrev pub invariant-list-loop-at : goal.invariant-list-loop-at
invariant-list-loop-at l =
    IsPlaced l.arena (list_of (map placed (drop (length l.parts - l.at) l.parts))) l.tail × Grows l.fn.arena l.arena

abbrev pub invariant-all_placed-loop-part : goal.invariant-all_placed-loop-part
invariant-all_placed-loop-part l =
    ArePlaced l.arena (map placed (take l.part-index l.parts)) l.refs.items × Grows l.fn.arena l.arena

abbrev pub invariant-fields_placed-loop-label : goal.invariant-fields_placed-loop-label
invariant-fields_placed-loop-label l =
    FieldsPlaced l.arena (map placed_field (take l.label-index l.fields)) l.refs.items × Grows l.fn.arena l.arena
