use Rattle.reactor_engine.proofs.Following.{written_piece}
use Rattle.reactor_engine.proofs.serve.answer_and_put.Goals as goal

pub returns-clause-served : goal.returns-clause-served
returns-clause-served g c =
    written_piece c.args.piece.now c.args.session.now c.answer_piece.new.session c.args.lines.now c.answer_piece.new.lines c.new-out.result.items c.answer_piece.new.out.items c.deref.result.now (g.K.Sink.taken c.args.screen.now) (g.K.Sink.taken c.put_all.new.screen)
    c.in_ok-answer_piece.ensures.served c.new-out.ensures.items c.deref.ensures.value c.in_ok-put_all.ensures.ok
