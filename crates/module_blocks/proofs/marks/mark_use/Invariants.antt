use Rattle.std.proofs.Common.{◌≡◌, length}
use Rattle.module_blocks.specs.Marks.{Adds}
use Rattle.module_blocks.proofs.Adding.{RefersBelow}
use Rattle.module_blocks.proofs.marks.mark_use.Given as goal

abbrev pub invariant-loop-a : goal.invariant-loop-a
invariant-loop-a l = record {
  width : l.table.bits ≡ l.initial.table.bits;
  height : length l.table.rows ≡ length l.initial.table.rows;
  adds : Adds (RefersBelow l.«module» l.definitions l.end l.used l.a) l.initial.table l.table;
}
