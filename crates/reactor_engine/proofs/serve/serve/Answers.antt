use Rattle.std.proofs.Common.{ap, ◌∙◌, subst}
use Rattle.reactor_outside.specs.Sink.{with_bytes}
use Rattle.reactor_meaning.specs.Command.{State, begun}
use Rattle.reactor_meaning.specs.Transcript.{frame_of}
use Rattle.reactor_engine.proofs.Endings.{after_first_frame}
use Rattle.reactor_engine.proofs.serve.serve.Goals as goal

pub returns-in-Ok : goal.returns-in-Ok
returns-in-Ok g c = λ files.
    after_first_frame (record { port = c.args.port }) files c.begin-session.result (g.S.Source.faults c.args.script.now) (g.K.Sink.faults c.args.screen.now) (g.K.Sink.faults c.show_and_put.new.screen) (g.S.Source.left c.args.script.now) (g.K.Sink.taken c.show_and_put.new.screen) (g.K.Sink.taken c.args.screen.now)
    (record { reads = g.S.Source.faults c.follow.new.script; writes = g.K.Sink.faults c.follow.new.screen; left = g.S.Source.left c.follow.new.script; taken = g.K.Sink.taken c.follow.new.screen })
    c.follow.result (c.begin-session.ensures files) c.in-Ok.ensures.quiet (c.in-Ok.ensures.ok files) (c.follow.ensures files)
