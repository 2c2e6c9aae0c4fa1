use Rattle.std.proofs.Common.{◌≡◌, take}
use Rattle.case_check.proofs.skeleton.+copy.Given as goal

-- the copies so far are those of the skeletons so far
abbrev pub invariant-copies-loop-skeleton : goal.invariant-copies-loop-skeleton
invariant-copies-loop-skeleton l = l.copied ≡ take l.skeleton-index l.skeletons
