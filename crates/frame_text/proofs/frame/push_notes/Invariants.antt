use Rattle.std.proofs.Common.{◌≡◌, ◌++◌, take}
use Rattle.std.specs.List.{flat_map}
use Rattle.frame_text.specs.Frame.{note_line}
use Rattle.frame_text.proofs.frame.push_notes.Given as goal

-- the texts of those so far were appended
abbrev pub invariant-loop-tag : goal.invariant-loop-tag
invariant-loop-tag l = l.out.items ≡ l.fn.out.items ++ flat_map (note_line l.kind) (take l.tag-index l.notes)
