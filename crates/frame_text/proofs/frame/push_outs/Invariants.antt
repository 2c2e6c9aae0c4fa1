use Rattle.std.proofs.Common.{◌≡◌, ◌++◌, take}
use Rattle.std.specs.List.{flat_map}
use Rattle.frame_text.specs.Frame.{out_line}
use Rattle.frame_text.proofs.frame.push_outs.Given as goal

-- the texts of those so far were appended
abbrev pub invariant-loop-name : goal.invariant-loop-name
invariant-loop-name l = l.out.items ≡ l.fn.out.items ++ flat_map out_line (take l.name-index l.outs)
