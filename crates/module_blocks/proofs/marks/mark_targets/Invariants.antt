use Rattle.std.proofs.Common.{◌≡◌, length, slice_get}
use Rattle.module_blocks.specs.Marks.{Adds}
use Rattle.module_blocks.specs.Refers.{names_one}
use Rattle.module_blocks.proofs.Adding.{Targets}
use Rattle.module_blocks.proofs.marks.mark_targets.Given as goal

abbrev pub invariant-loop-b : goal.invariant-loop-b
invariant-loop-b l = record {
  width : l.table.bits ≡ l.initial.table.bits;
  height : length l.table.rows ≡ length l.initial.table.rows;
  adds : Adds (Targets l.a (λ y. names_one l.«module» l.used.answer (slice_get l.definitions y)) l.b) l.initial.table l.table;
}
