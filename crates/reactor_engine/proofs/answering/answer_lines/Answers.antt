use Rattle.std.proofs.Common.{◌++◌, ◌∙◌, ap}
use Rattle.script_lines.specs.Reading.{readings, said}
use Rattle.reactor_engine.proofs.Following.{handed_out}
use Rattle.reactor_engine.proofs.answering.answer_lines.Goals as goal

pub loop-line-preserved : goal.loop-line-preserved
loop-line-preserved c = λ files first script start taken served.
    handed_out files first script c.loop-line.lines c.next.new.self c.loop-line.out.items c.answer_line.new.out.items c.loop-line.session c.answer_line.new.session c.in-Some.line start taken
    (λ more. c.in_ok-line.ensures.says more ∙ ap (λ found. said found ++ readings (c.next.new.self ++ more)) c.in-Some.is) c.in_ok-answer_line.ensures (c.loop-line.invariant files first script start taken served)
