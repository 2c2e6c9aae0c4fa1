use Rattle.reactor_engine.proofs.Following.{written_all}
use Rattle.reactor_engine.proofs.serve.end_and_put.Goals as goal

pub returns-clause-all : goal.returns-clause-all
returns-clause-all g c =
    written_all c.args.session.now c.args.lines.now c.new-out.result.items c.answer_end.new.out.items c.deref.result.now (g.K.Sink.taken c.args.screen.now) (g.K.Sink.taken c.put_all.new.screen)
    c.in_ok-answer_end.ensures c.new-out.ensures.items c.deref.ensures.value c.in_ok-put_all.ensures.ok
