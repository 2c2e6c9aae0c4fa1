use Rattle.std.proofs.Common.{◌≡◌, ◌+◌, take}
use Rattle.value_text.specs.Counting.{completed, open_after}
use Rattle.value_text.proofs.budget.spent.Given as goal

-- with the bytes so far
abbrev pub invariant-loop-byte : goal.invariant-loop-byte
invariant-loop-byte l =
    (l.left + completed l.fn.budget.following (take l.byte-index l.bytes) ≡ l.fn.budget.left)
    × (l.following ≡ open_after l.fn.budget.following (take l.byte-index l.bytes))
