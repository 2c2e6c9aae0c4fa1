use Rattle.std.proofs.Common.{◌≡◌, length}
use Rattle.elm_base.specs.Spaces as spaces
use Rattle.elm_base.proofs.spaces.trim_end.Given as goal

abbrev pub invariant-loop-front : goal.invariant-loop-front
invariant-loop-front l = spaces.trim_end l.text ≡ spaces.trim_end l.fn.text

abbrev pub decreases-loop-front : goal.decreases-loop-front
decreases-loop-front l = length l.text
