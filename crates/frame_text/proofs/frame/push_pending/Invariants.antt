use Rattle.std.proofs.Common.{◌≡◌, ◌++◌, take}
use Rattle.std.specs.List.{flat_map}
use Rattle.frame_text.specs.Frame.{pending_line}
use Rattle.frame_text.proofs.frame.push_pending.Given as goal

-- the texts of those so far were appended
abbrev pub invariant-loop-number : goal.invariant-loop-number
invariant-loop-number l = l.out.items ≡ l.fn.out.items ++ flat_map pending_line (take l.number-index l.pending)
