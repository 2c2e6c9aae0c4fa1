use Rattle.std.proofs.Common.{◌-◌, ◌+◌, length, map, take, drop, sym, ap, subst}
use Rattle.value_arena.specs.Soundness.{RefsBelow, FieldsBelow}
use Rattle.port_inputs.specs.Placed.{placed, placed_field}
use Rattle.port_inputs.proofs.Growing.{grows_trans, placed_turn, field_turn, refs_below, fields_below, tuple_placed, record_placed, list_turn, one_further, map_more}
use Rattle.port_inputs.proofs.placing.+values.Goals as goal

pub all_placed-loop-part-preserved : goal.all_placed-loop-part-preserved
all_placed-loop-part-preserved t c =
    let i = c.loop-part.invariant in
    let parts = c.args.parts.now in
    let at = c.loop-part.part-index in (
      placed_turn c.loop-part.arena c.placed.new.arena (map placed (take at parts)) (map placed (take (at + 1) parts)) c.loop-part.refs.items c.push.new.self.items
          (placed c.part-item.result) c.in_ok-placed.field-0 c.in_ok-placed.ensures.grows i.0 c.in_ok-placed.ensures.placed
          (map_more placed parts at c.part-item.result c.loop-part-test.true c.part-item.is) c.in_ok-push.ensures.items,
      grows_trans c.args.arena.now c.loop-part.arena c.placed.new.arena i.1 c.in_ok-placed.ensures.grows,
    )

pub fields_placed-loop-label-preserved : goal.fields_placed-loop-label-preserved
fields_placed-loop-label-preserved t c =
    let i = c.loop-label.invariant in
    let item = c.loop-label-item.result in
    let fields = c.args.fields.now in
    let at = c.loop-label.label-index in (
      field_turn c.loop-label.arena c.placed.new.arena (map placed_field (take at fields)) (map placed_field (take (at + 1) fields)) c.loop-label.refs.items c.push.new.self.items
          item.0 c.in_ok-copy.field-0 (placed item.1) c.in_ok-at.at c.in_ok-copy.ensures c.in_ok-at.ensures.grows i.0 c.in_ok-at.ensures.placed
          (map_more placed_field fields at item c.loop-label-test.true c.loop-label-item.is) c.in_ok-push.ensures.items,
      grows_trans c.args.arena.now c.loop-label.arena c.placed.new.arena i.1 c.in_ok-at.ensures.grows,
    )

pub list-loop-at-preserved : goal.list-loop-at-preserved
list-loop-at-preserved t c =
    let i = c.loop-at.invariant in
    let parts = c.args.parts.now in
    let item = c.index-parts-parts.result in (
      list_turn (map placed (drop (length parts - c.loop-at.at) parts)) (map placed (drop (length parts - (c.loop-at.at + 1)) parts))
          c.loop-at.arena c.placed.new.arena c.grow-in-loop-at.new.arena (placed item) c.in_ok-head.head c.loop-at.tail c.in_ok-tail-2.tail
          c.in_ok-head.ensures.grows i.0 c.in_ok-head.ensures.placed
          (ap (map placed) (one_further parts c.loop-at.at item c.loop-at-test.true c.index-parts-parts.is))
          c.in_ok-tail-2.ensures.place c.in_ok-tail-2.ensures.value,
      grows_trans c.args.arena.now c.loop-at.arena c.grow-in-loop-at.new.arena i.1
          (grows_trans c.loop-at.arena c.placed.new.arena c.grow-in-loop-at.new.arena c.in_ok-head.ensures.grows c.in_ok-tail-2.ensures.grows),
    )

pub record_of-grow-requires-clause-parts : goal.record_of-grow-requires-clause-parts
record_of-grow-requires-clause-parts t c =
    subst (FieldsBelow (length c.fields_placed.new.arena)) (sym c.from_vec-fields.ensures)
    (fields_below c.fields_placed.new.arena (map placed_field c.args.fields.now) c.in_ok-refs.refs.items c.in_ok-refs.ensures.placed)

pub record_of-returns-clause-placed : goal.record_of-returns-clause-placed
record_of-returns-clause-placed t c =
    record_placed c.grow.result c.fields_placed.new.arena c.grow.new.arena (map placed_field c.args.fields.now) c.in_ok-refs.refs.items c.from_vec-fields.result c.from_vec-fields.ensures
    c.in_ok-refs.ensures.placed c.grow.ensures.place c.grow.ensures.value

pub tuple-grow-requires-clause-parts : goal.tuple-grow-requires-clause-parts
tuple-grow-requires-clause-parts t c =
    subst (RefsBelow (length c.all_placed.new.arena)) (sym c.from_vec-parts.ensures)
    (refs_below c.all_placed.new.arena (map placed c.args.parts.now) c.in_ok-refs.refs.items c.in_ok-refs.ensures.placed)

pub tuple-returns-clause-placed : goal.tuple-returns-clause-placed
tuple-returns-clause-placed t c =
    tuple_placed c.grow.result c.all_placed.new.arena c.grow.new.arena (map placed c.args.parts.now) c.in_ok-refs.refs.items c.from_vec-parts.result c.from_vec-parts.ensures
    c.in_ok-refs.ensures.placed c.grow.ensures.place c.grow.ensures.value
