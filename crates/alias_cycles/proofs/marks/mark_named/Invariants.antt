use Rattle.std.proofs.Common.{◌≡◌, length}
use Rattle.module_blocks.specs.Marks.{Adds}
use Rattle.module_blocks.proofs.Adding.{Targets}
use Rattle.alias_cycles.specs.Cycles.{refers}
use Rattle.alias_cycles.proofs.marks.mark_named.Given as goal

abbrev pub invariant-loop-b : goal.invariant-loop-b
invariant-loop-b l = record {
  width : l.table.bits ≡ l.initial.table.bits;
  height : length l.table.rows ≡ length l.initial.table.rows;
  adds : Adds (Targets l.a (refers l.aliases l.a) l.b) l.initial.table l.table;
}
