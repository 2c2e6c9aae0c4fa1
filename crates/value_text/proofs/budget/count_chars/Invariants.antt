use Rattle.std.proofs.Common.{◌≡◌, ◌≤◌, take}
use Rattle.value_text.specs.Counting.{completed, open_after}
use Rattle.value_text.proofs.budget.count_chars.Given as goal

-- of the bytes so far
abbrev pub invariant-loop-byte : goal.invariant-loop-byte
invariant-loop-byte l =
    (l.count ≡ completed 0 (take l.byte-index l.bytes)) × (l.following ≡ open_after 0 (take l.byte-index l.bytes))
    × (l.count ≤ l.byte-index)
