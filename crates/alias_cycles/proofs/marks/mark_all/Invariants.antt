use Rattle.std.proofs.Common.{◌≡◌, length}
use Rattle.module_blocks.specs.Marks.{Adds}
use Rattle.alias_cycles.specs.Cycles.{refers}
use Rattle.alias_cycles.proofs.Rows.{Below}
use Rattle.alias_cycles.proofs.marks.mark_all.Given as goal

abbrev pub invariant-loop-a : goal.invariant-loop-a
invariant-loop-a l = record {
  width : l.table.bits ≡ l.initial.table.bits;
  height : length l.table.rows ≡ length l.initial.table.rows;
  adds : Adds (Below (refers l.aliases) l.a) l.initial.table l.table;
}
