use Rattle.block_groups.specs.Growing.{IsFaultOf}
use Rattle.block_groups.proofs.Turning.{appends_next}
use Rattle.block_groups.proofs.cycles.push_cycles.Goals as goal

pub loop-group-preserved : goal.loop-group-preserved
loop-group-preserved c =
    appends_next (IsFaultOf c.args.definitions.now) c.args.groups.now c.loop-group.group-index c.group-item.result c.args.out.now c.loop-group.out
    c.push_cycle.new.out c.loop-group-test.true c.group-item.is c.loop-group.invariant c.in_ok-push_cycle.ensures
