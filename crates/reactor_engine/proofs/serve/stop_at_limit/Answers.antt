use Rattle.std.proofs.Common.{inl, refl}
use Rattle.reactor_engine.proofs.Following.{whole_of_piece}
use Rattle.reactor_engine.proofs.serve.stop_at_limit.Goals as goal

pub returns-in-Ok : goal.returns-in-Ok
returns-in-Ok g c =
    inl (
      refl,
      c.in-Ok.ensures.quiet,
      whole_of_piece c.args.piece.now c.args.session.now c.answer_and_put.new.session c.args.lines.now c.answer_and_put.new.lines (g.K.Sink.taken c.args.screen.now) (g.K.Sink.taken c.answer_and_put.new.screen) c.in-Ok.ensures.served c.in-Ok.ensures.open,
    )
