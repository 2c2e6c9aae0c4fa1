use Rattle.std.proofs.Common.{◌≡◌, take}
use Rattle.elm_base.proofs.tree.+copy.Given as goal

-- the copies so far are those of the patterns so far
abbrev pub invariant-copies_of_patterns-loop-pattern :
    goal.invariant-copies_of_patterns-loop-pattern
invariant-copies_of_patterns-loop-pattern l = l.copied ≡ take l.pattern-index l.patterns
