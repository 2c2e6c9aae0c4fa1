use Rattle.std.proofs.Common.{◌++◌, ◌∷◌, [], ◌∙◌, ap, arith}
use Rattle.script_lines.proofs.Drilled.{drilled_more, drilled_all}
use Rattle.script_lines.proofs.drill.push_drawn.Goals as goal

pub loop-made-preserved : goal.loop-made-preserved
loop-made-preserved c =
    drilled_more c.loop-made.made c.loop-made.draws.x _ c.loop-made.out.items _ _ (omega (arith, c.loop-made-test.true))
    (c.in_ok-push_text.ensures ∙ ap (λ out. out ++ 10 ∷ []) c.in_ok-push_drill_line.ensures.text)
    c.in_ok-push_drill_line.ensures.moved
    c.loop-made.invariant

pub returns : goal.returns
returns c = drilled_all c.loop-made.made c.loop-made.draws.x c.loop-made.out.items _ (omega (arith, c.loop-made-test.false)) c.loop-made.invariant
