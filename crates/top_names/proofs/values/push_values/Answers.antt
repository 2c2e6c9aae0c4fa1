use Rattle.top_names.proofs.Numbering as numbering
use Rattle.top_names.proofs.values.push_values.Goals as goal

pub loop-group-preserved : goal.loop-group-preserved
loop-group-preserved c =
    numbering.group_turn c.args.modules.now c.args.groups.now c.loop-group.group-index c.group-item.result _ _ _ c.loop-group-test.true c.group-item.is c.loop-group.invariant c.in_ok-push_group.ensures
