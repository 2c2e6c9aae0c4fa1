use Rattle.std.proofs.Common.{length}
use Rattle.module_blocks.specs.Refers.{refers_in}
use Rattle.module_blocks.proofs.Adding.{none_set, exactly}
use Rattle.module_blocks.proofs.marks.references.Goals as goal

pub returns-clause-exact : goal.returns-clause-exact
returns-clause-exact c =
    exactly (refers_in c.args.«module».now c.args.definitions.now c.args.end c.args.uses.now) c.in_ok-table.table c.mark_uses.new.table
    (none_set c.in_ok-table.table (length c.args.definitions.now) c.in_ok-table.ensures.none_set) c.mark_uses.ensures.adds
