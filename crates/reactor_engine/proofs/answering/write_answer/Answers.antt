use Rattle.std.proofs.Common.{◌∙◌, ◌++◌, ap, sym}
use Rattle.reactor_meaning.specs.Transcript.{answer_text}
use Rattle.reactor_engine.specs.Session.{state_of}
use Rattle.reactor_engine.proofs.answering.write_answer.Goals as goal

pub returns-in_ok-write_frame-in-Shown : goal.returns-in_ok-write_frame-in-Shown
returns-in_ok-write_frame-in-Shown c = λ files.
    c.in_ok-write_frame-in-Shown.ensures.written files
    ∙ ap (λ answer. c.args.out.now.items ++ answer_text (state_of c.args.session.now files) answer) (sym c.in-Shown.is)
