use Rattle.std.proofs.Common.{◌≡◌, length}
use Rattle.elm_base.specs.Spaces as spaces
use Rattle.elm_base.proofs.spaces.trim_start.Given as goal

abbrev pub invariant-loop-text : goal.invariant-loop-text
invariant-loop-text l = spaces.trim_start l.text ≡ spaces.trim_start l.fn.text

abbrev pub decreases-loop-text : goal.decreases-loop-text
decreases-loop-text l = length l.text
