use Rattle.std.proofs.Common.{◌≡◌, ◌≤◌, ◌-◌, ◌∙◌, arith, refl, [], length, take, drop}
use Rattle.reactor_engine.specs.declared.status.Status.TheVariants.{Done, ScriptTooLong}
use Rattle.reactor_engine.specs.Session.{state_of}
use Rattle.reactor_engine.specs.Served.{WritesAll, WritesWhole}
use Rattle.reactor_engine.proofs.Following.{rest_after}
use Rattle.reactor_engine.proofs.Endings.{outside, rose_from, ends_serve, served_by_end, served_at_limit, served_before_fault, told_at, told_map}
use Rattle.reactor_engine.proofs.serve.follow_lines.Goals as goal

pub returns-in-Err : goal.returns-in-Err
returns-in-Err g c = λ files.
    let inv = c.pieces.invariant in
    let reads = g.S.Source.faults c.args.script.now in
    let before = outside reads (g.K.Sink.faults c.args.screen.now) (g.S.Source.left c.args.script.now) (g.K.Sink.taken c.args.screen.now) in
    let after = outside (g.S.Source.faults c.read_piece.new.script) (g.K.Sink.faults c.pieces.screen) (g.S.Source.left c.read_piece.new.script) (g.K.Sink.taken c.pieces.screen) in (
      rose_from reads (g.S.Source.faults c.pieces.script) (g.S.Source.faults c.read_piece.new.script) inv.reads c.in-Err.ensures.count,
      inv.writes,
      served_before_fault files (state_of c.args.session.now files) c.pieces.session c.pieces.lines c.pieces.taken (g.S.Source.left c.pieces.script) (g.K.Sink.taken c.pieces.screen) before after inv.open_line c.in-Err.ensures.failed refl (inv.told files),
    )

pub returns-then-count-eq0 : goal.returns-then-count-eq0
returns-then-count-eq0 g c = λ files.
    let inv = c.pieces.invariant in
    let first = state_of c.args.session.now files in
    let left = g.S.Source.left c.pieces.script in
    let taken = g.K.Sink.taken c.pieces.screen in
    let before = outside (g.S.Source.faults c.args.script.now) (g.K.Sink.faults c.args.screen.now) (g.S.Source.left c.args.script.now) (g.K.Sink.taken c.args.screen.now) in
    let after = outside (g.S.Source.faults c.read_piece.new.script) (g.K.Sink.faults c.finish.new.screen) (g.S.Source.left c.read_piece.new.script) (g.K.Sink.taken c.finish.new.screen) in
    ends_serve Done (WritesAll c.pieces.session c.pieces.lines taken after.taken) [] first before after (g.K.Sink.faults c.pieces.screen) c.finish.result
    (c.in-Ok.ensures.count ∙ inv.reads) inv.writes
    (served_by_end files first c.pieces.session c.pieces.lines c.pieces.taken left taken before after inv.few (inv.told files)
    (told_map left _ (λ bytes. bytes ≡ []) (λ bytes both. both.0 c.if-count-eq0.true) c.in-Ok.ensures.end))
    c.finish.ensures

pub returns-then-taken-gt-MAX_SCRIPT : goal.returns-then-taken-gt-MAX_SCRIPT
returns-then-taken-gt-MAX_SCRIPT g c = λ files.
    let inv = c.pieces.invariant in
    let first = state_of c.args.session.now files in
    let size = c.in-Ok.count in
    let left = g.S.Source.left c.pieces.script in
    let taken = g.K.Sink.taken c.pieces.screen in
    let input = c.read_piece.new.input in
    let before = outside (g.S.Source.faults c.args.script.now) (g.K.Sink.faults c.args.screen.now) (g.S.Source.left c.args.script.now) (g.K.Sink.taken c.args.screen.now) in
    let after = outside (g.S.Source.faults c.read_piece.new.script) (g.K.Sink.faults c.stop_at_limit.new.screen) (g.S.Source.left c.read_piece.new.script) (g.K.Sink.taken c.stop_at_limit.new.screen) in
    ends_serve ScriptTooLong (WritesWhole (take (size - 1) input) c.pieces.session c.pieces.lines taken after.taken) [] first before after (g.K.Sink.faults c.pieces.screen) c.stop_at_limit.result
    (c.in-Ok.ensures.count ∙ inv.reads) inv.writes
    (served_at_limit files first c.pieces.session c.pieces.lines input c.pieces.taken size left taken before after
    (omega (arith, inv.few, c.in-Ok.ensures.within, c.min-room.ensures, c.if-taken-gt-MAX_SCRIPT.true)) (omega (arith, inv.few, c.if-taken-gt-MAX_SCRIPT.true)) (inv.told files) c.in-Ok.ensures.next)
    c.stop_at_limit.ensures

pub pieces-preserved : goal.pieces-preserved
pieces-preserved g c =
    let inv = c.pieces.invariant in
    let left = g.S.Source.left c.pieces.script in
    let size = c.in-Ok.count in
    let input = c.read_piece.new.input in record {
      open_line = c.in-Ok-answer_and_put.ensures.open;
      few = omega (arith, c.if-taken-gt-MAX_SCRIPT.false);
      reads = c.in-Ok.ensures.count ∙ inv.reads;
      writes = c.in-Ok-answer_and_put.ensures.quiet ∙ inv.writes;
      told = λ files script is.
          let rest = inv.told files script is in
          let tail = drop c.pieces.taken script in
          let next = told_at left tail (λ bytes. (size ≤ length bytes) × (take size input ≡ take size bytes)) rest.others c.in-Ok.ensures.next in
          rest_after files (state_of c.args.session.now files) c.pieces.session c.answer_and_put.new.session script c.pieces.lines c.answer_and_put.new.lines (take size input) c.pieces.taken size left (g.S.Source.left c.read_piece.new.script) (g.K.Sink.taken c.args.screen.now) (g.K.Sink.taken c.pieces.screen) (g.K.Sink.taken c.answer_and_put.new.screen) rest next.0 next.1 c.in-Ok.ensures.rest c.in-Ok-answer_and_put.ensures.served;
    }
