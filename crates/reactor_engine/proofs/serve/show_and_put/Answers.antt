use Rattle.std.proofs.Common.{◌∙◌, ◌++◌, ap}
use Rattle.reactor_outside.specs.Sink.{with_bytes}
use Rattle.reactor_meaning.specs.Transcript.{frame_of}
use Rattle.reactor_engine.specs.Session.{state_of}
use Rattle.reactor_engine.proofs.serve.show_and_put.Goals as goal

pub returns-clause-ok : goal.returns-clause-ok
returns-clause-ok g c = λ files.
    c.in_ok-put_all.ensures.ok
    ∙ ap (λ bytes. with_bytes bytes (g.K.Sink.taken c.args.screen.now))
    (c.deref.ensures.value
    ∙ c.in_ok-write_frame.ensures.written files
    ∙ ap (λ before. before ++ frame_of (state_of c.args.session.now files)) c.new-out.ensures.items)
