use Rattle.std.proofs.Common.{length}
use Rattle.module_blocks.proofs.Adding.{none_set, exactly}
use Rattle.alias_cycles.specs.Cycles.{refers}
use Rattle.alias_cycles.proofs.marks.references.Goals as goal

pub returns-clause-exact : goal.returns-clause-exact
returns-clause-exact c =
    exactly (refers c.args.aliases.now) c.in_ok-table.table c.mark_all.new.table
    (none_set c.in_ok-table.table (length c.args.aliases.now) c.in_ok-table.ensures.none_set) c.mark_all.ensures.adds
