use Rattle.std.proofs.Common.{◌≡◌, IsTrue, length, take}
use Rattle.module_blocks.specs.Marks.{Adds}
use Rattle.module_blocks.specs.Refers.{refers_in}
use Rattle.module_blocks.proofs.marks.mark_uses.Given as goal

abbrev pub invariant-loop-used : goal.invariant-loop-used
invariant-loop-used l = record {
  width : l.table.bits ≡ l.initial.table.bits;
  height : length l.table.rows ≡ length l.initial.table.rows;
  adds : Adds (λ x y. IsTrue (refers_in l.«module» l.definitions l.end (take l.used-index l.uses) x y)) l.initial.table l.table;
}
