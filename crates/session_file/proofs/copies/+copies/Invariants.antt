use Rattle.std.proofs.Common.{◌≡◌, take}
use Rattle.session_file.proofs.copies.+copies.Given as goal

abbrev pub invariant-copies_of-loop-part : goal.invariant-copies_of-loop-part
invariant-copies_of-loop-part l = l.copied ≡ take l.part-index l.parts

abbrev pub invariant-copies_of_fields-loop-label : goal.invariant-copies_of_fields-loop-label
invariant-copies_of_fields-loop-label l = l.copied ≡ take l.label-index l.fields
