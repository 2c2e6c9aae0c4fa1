use Rattle.std.proofs.Common.{◌≡◌, ◌++◌, map, take}
use Rattle.frame_text.specs.TypeText as spec
use Rattle.frame_text.proofs.types.+types.Given as goal

-- the fields so far were appended
abbrev pub invariant-push_fields-loop-label : goal.invariant-push_fields-loop-label
invariant-push_fields-loop-label l =
    l.out.items ≡ l.initial.out.items ++ spec.other_fields (map spec.described_field (take l.label-index l.others))

-- the parts so far were appended
abbrev pub invariant-push_parts-loop-part : goal.invariant-push_parts-loop-part
invariant-push_parts-loop-part l =
    l.out.items ≡ l.initial.out.items ++ spec.other_parts (map spec.described (take l.part-index l.others))
