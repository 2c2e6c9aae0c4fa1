use Rattle.std.proofs.Common.{◌≡◌, ◌-◌, codes, Some, sym, subst}
use Rattle.std.proofs.lemmas.Result.{err_from_is_err_and}
use Rattle.port_texts.specs.Reader.{type_at, field, some_of, Reads}
use Rattle.port_texts.proofs.Turns.{deeper, passed, loop_err, loop_turn, no_turn, at_stop, closes, stays_open}
use Rattle.port_texts.proofs.read.+types.Goals as goal
use Rattle.port_texts.proofs.read.+types.Goals.{parts_at-else-loop-turn-test, parts_at-then-loop-turn-test+then-not-passes, fields_at-else-loop-turn-test, fields_at-then-loop-turn-test+then-not-passes}

pub type_at-returns-else-depth-eq0 : goal.type_at-returns-else-depth-eq0
type_at-returns-else-depth-eq0 t c =
    subst (λ o. Reads o c.headed_at.result c.headed_at.new.left) (sym (deeper (λ n. type_at n c.args.left.now) c.args.depth c.if-depth-eq0.false)) c.headed_at.ensures

pub parts_at-returns-in_err-type_at-2 : goal.parts_at-returns-in_err-type_at-2
parts_at-returns-in_err-type_at-2 t c =
    let e = err_from_is_err_and c.from_residual-in_err-type_at-2.result c.from_residual-in_err-type_at-2.ensures.1 in
    rw (e.1, e.2)
    (loop_err (codes ",") (codes ")") (type_at c.args.depth) _ c.loop-turn.parts.items _ c.len-turn-end.result c.loop-turn._turn c.loop-turn.left c.passes.new.self c.loop-turn-test.true
    (passed _ _ c.passes.result c.if-not-passes.false c.passes.ensures) c.in_err-type_at-2.ensures c.loop-turn.invariant)

pub parts_at-loop-turn-preserved : goal.parts_at-loop-turn-preserved
parts_at-loop-turn-preserved t c =
    rw c.in_ok-push-2.ensures.items
    (loop_turn (codes ",") (codes ")") (type_at c.args.depth) _ c.loop-turn.parts.items c.len-turn-end.result c.loop-turn._turn c.loop-turn.left c.passes.new.self _ _ c.loop-turn-test.true
    (passed _ _ c.passes.result c.if-not-passes.false c.passes.ensures) c.in_ok-type_at-2.ensures c.loop-turn.invariant)

pub parts_at-returns-in_err-expect : goal.parts_at-returns-in_err-expect
parts_at-returns-in_err-expect t c =
    let e = err_from_is_err_and c.from_residual-in_err-expect.result c.from_residual-in_err-expect.ensures.1 in
    let over : some_of (codes ",") (type_at c.args.depth) c.args.left.now ≡ Some (c.loop-turn.parts.items, c.loop-turn-test.left) = elim c.loop-turn-test.branch [
      | parts_at-else-loop-turn-test w ↦ no_turn (codes ",") (codes ")") (type_at c.args.depth) _ c.loop-turn.parts.items c.len-turn-end.result c.loop-turn._turn c.loop-turn.left _ w.loop-turn-test.false w.left-is c.loop-turn.invariant
      | parts_at-then-loop-turn-test+then-not-passes w ↦ at_stop (codes ",") (codes ")") (type_at c.args.depth) _ c.loop-turn.parts.items w.passes.result (c.len-turn-end.result - c.loop-turn._turn) c.loop-turn.left _ _ w.if-not-passes.true w.passes.ensures w.left-is c.loop-turn.invariant
    ] in
    rw (e.1, e.2) (stays_open (codes ",") (codes ")") (type_at c.args.depth) _ c.loop-turn.parts.items _ _ over c.in_err-expect.ensures)

pub parts_at-returns : goal.parts_at-returns
parts_at-returns t c =
    let over : some_of (codes ",") (type_at c.args.depth) c.args.left.now ≡ Some (c.loop-turn.parts.items, c.loop-turn-test.left) = elim c.loop-turn-test.branch [
      | parts_at-else-loop-turn-test w ↦ no_turn (codes ",") (codes ")") (type_at c.args.depth) _ c.loop-turn.parts.items c.len-turn-end.result c.loop-turn._turn c.loop-turn.left _ w.loop-turn-test.false w.left-is c.loop-turn.invariant
      | parts_at-then-loop-turn-test+then-not-passes w ↦ at_stop (codes ",") (codes ")") (type_at c.args.depth) _ c.loop-turn.parts.items w.passes.result (c.len-turn-end.result - c.loop-turn._turn) c.loop-turn.left _ _ w.if-not-passes.true w.passes.ensures w.left-is c.loop-turn.invariant
    ] in
    closes (codes ",") (codes ")") (type_at c.args.depth) _ c.loop-turn.parts.items _ _ over c.in_ok-expect.ensures

pub fields_at-returns-in_err-field_at-2 : goal.fields_at-returns-in_err-field_at-2
fields_at-returns-in_err-field_at-2 t c =
    let e = err_from_is_err_and c.from_residual-in_err-field_at-2.result c.from_residual-in_err-field_at-2.ensures.1 in
    rw (e.1, e.2)
    (loop_err (codes ", ") (codes " }") (field (type_at c.args.depth)) _ c.loop-turn.fields.items _ c.len-turn-end.result c.loop-turn._turn c.loop-turn.left c.passes.new.self c.loop-turn-test.true
    (passed _ _ c.passes.result c.if-not-passes.false c.passes.ensures) c.in_err-field_at-2.ensures c.loop-turn.invariant)

pub fields_at-loop-turn-preserved : goal.fields_at-loop-turn-preserved
fields_at-loop-turn-preserved t c =
    rw c.in_ok-push-2.ensures.items
    (loop_turn (codes ", ") (codes " }") (field (type_at c.args.depth)) _ c.loop-turn.fields.items c.len-turn-end.result c.loop-turn._turn c.loop-turn.left c.passes.new.self _ _ c.loop-turn-test.true
    (passed _ _ c.passes.result c.if-not-passes.false c.passes.ensures) c.in_ok-field_at-2.ensures c.loop-turn.invariant)

pub fields_at-returns-in_err-expect : goal.fields_at-returns-in_err-expect
fields_at-returns-in_err-expect t c =
    let e = err_from_is_err_and c.from_residual-in_err-expect.result c.from_residual-in_err-expect.ensures.1 in
    let over : some_of (codes ", ") (field (type_at c.args.depth)) c.args.left.now ≡ Some (c.loop-turn.fields.items, c.loop-turn-test.left) = elim c.loop-turn-test.branch [
      | fields_at-else-loop-turn-test w ↦ no_turn (codes ", ") (codes " }") (field (type_at c.args.depth)) _ c.loop-turn.fields.items c.len-turn-end.result c.loop-turn._turn c.loop-turn.left _ w.loop-turn-test.false w.left-is c.loop-turn.invariant
      | fields_at-then-loop-turn-test+then-not-passes w ↦ at_stop (codes ", ") (codes " }") (field (type_at c.args.depth)) _ c.loop-turn.fields.items w.passes.result (c.len-turn-end.result - c.loop-turn._turn) c.loop-turn.left _ _ w.if-not-passes.true w.passes.ensures w.left-is c.loop-turn.invariant
    ] in
    rw (e.1, e.2) (stays_open (codes ", ") (codes " }") (field (type_at c.args.depth)) _ c.loop-turn.fields.items _ _ over c.in_err-expect.ensures)

pub fields_at-returns : goal.fields_at-returns
fields_at-returns t c =
    let over : some_of (codes ", ") (field (type_at c.args.depth)) c.args.left.now ≡ Some (c.loop-turn.fields.items, c.loop-turn-test.left) = elim c.loop-turn-test.branch [
      | fields_at-else-loop-turn-test w ↦ no_turn (codes ", ") (codes " }") (field (type_at c.args.depth)) _ c.loop-turn.fields.items c.len-turn-end.result c.loop-turn._turn c.loop-turn.left _ w.loop-turn-test.false w.left-is c.loop-turn.invariant
      | fields_at-then-loop-turn-test+then-not-passes w ↦ at_stop (codes ", ") (codes " }") (field (type_at c.args.depth)) _ c.loop-turn.fields.items w.passes.result (c.len-turn-end.result - c.loop-turn._turn) c.loop-turn.left _ _ w.if-not-passes.true w.passes.ensures w.left-is c.loop-turn.invariant
    ] in
    closes (codes ", ") (codes " }") (field (type_at c.args.depth)) _ c.loop-turn.fields.items _ _ over c.in_ok-expect.ensures
