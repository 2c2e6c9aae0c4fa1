use Rattle.std.proofs.Common.{◌∙◌, ap}
use Rattle.script_lines.specs.Reading.{said}
use Rattle.reactor_engine.proofs.Following.{last_answered}
use Rattle.reactor_engine.proofs.answering.answer_end.Goals as goal

pub returns-in_ok-answer_line-in-Some : goal.returns-in_ok-answer_line-in-Some
returns-in_ok-answer_line-in-Some c = λ taken files first script start served.
    last_answered files first script c.args.lines.now c.args.out.now.items c.answer_line.new.out.items c.args.session.now c.answer_line.new.session c.in-Some.line start taken
    (c.in_ok-finish.ensures.says ∙ ap said c.in-Some.is) c.in_ok-answer_line-in-Some.ensures served
