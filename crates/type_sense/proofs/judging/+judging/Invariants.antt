use Rattle.std.proofs.Common.{◌≡◌, take}
use Rattle.written_sorts.specs.Forced.{marks_of}
use Rattle.type_sense.specs.Judging as spec
use Rattle.type_sense.proofs.judging.+judging.Given as goal

abbrev pub invariant-judge_parts-loop-tree : goal.invariant-judge_parts-loop-tree
invariant-judge_parts-loop-tree l = record {
  holds : l.holds ≡ spec.parts_hold (spec.judged_all (marks_of l.marks) (take l.tree-index l.trees));
  bars : l.bars ≡ spec.parts_bars (spec.judged_all (marks_of l.marks) (take l.tree-index l.trees));
  forced : l.forced ≡ spec.parts_forced (spec.judged_all (marks_of l.marks) (take l.tree-index l.trees));
}

abbrev pub invariant-judge_record-loop-tree : goal.invariant-judge_record-loop-tree
invariant-judge_record-loop-tree l = record {
  holds : l.holds ≡ spec.fields_hold (spec.judged_fields (marks_of l.marks) (take l.tree-index l.fields));
  bars : l.bars ≡ spec.fields_bars (spec.judged_fields (marks_of l.marks) (take l.tree-index l.fields));
  forced : l.forced ≡ spec.fields_forced (spec.judged_fields (marks_of l.marks) (take l.tree-index l.fields));
}
