use Rattle.std.proofs.Common.{◌≡◌, ◌++◌, reverse, length}
use Rattle.level_fixer.proofs.turns.turned.Given as goal

-- the items so far, and then those that are left in reverse
abbrev pub invariant-turns : goal.invariant-turns
invariant-turns g l = l.back ++ reverse l.items ≡ reverse l.fn.items

abbrev pub decreases-turns : goal.decreases-turns
decreases-turns g l = length l.items
