use Rattle.std.proofs.Common.{◌++◌, ◌∷◌, [], ◌∙◌, ap}
use Rattle.script_lines.proofs.Kept.{more_kept, last_kept}
use Rattle.script_lines.proofs.lines.push_short.Goals as goal

pub loop-line-preserved : goal.loop-line-preserved
loop-line-preserved c =
    more_kept c.loop-line.room c.in-Some.line.now c.in-Some.rest.now c.loop-line.piece.now c.loop-line.out.items _ _
    (c.in_ok-push.ensures.items ∙ ap (λ out. out ++ 10 ∷ []) c.in_ok-push_front.ensures)
    c.in-Some.ensures.whole
    c.in-Some.ensures.first
    c.loop-line.invariant

pub returns : goal.returns
returns c = last_kept c.loop-line.room c.loop-line.piece.now c.loop-line.out.items _ _ c.in_ok-push_front-2.ensures c.in_default.ensures.none c.loop-line.invariant
