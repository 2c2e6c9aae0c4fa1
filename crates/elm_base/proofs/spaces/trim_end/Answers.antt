use Rattle.std.proofs.Common.{◌∙◌, sym}
use Rattle.elm_base.proofs.Ends.{trim_end_space, front_shorter}
use Rattle.elm_base.proofs.spaces.trim_end.Goals as goal

pub loop-front-preserved : goal.loop-front-preserved
loop-front-preserved c = sym (trim_end_space c.loop-front.text.now c.in-Some.front.now c.in-Some.ensures.last) ∙ c.loop-front.invariant

pub loop-front-smaller : goal.loop-front-smaller
loop-front-smaller c = front_shorter c.loop-front.text.now c.in-Some.front.now 32 c.in-Some.ensures.last
