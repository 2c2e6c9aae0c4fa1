use Rattle.top_names.proofs.Numbering as numbering
use Rattle.top_names.proofs.values.push_members.Goals as goal

pub loop-at-preserved : goal.loop-at-preserved
loop-at-preserved c =
    numbering.member_turn c.args.modules.now (λ at. (c.args.group.now.«module», at)) _ c.loop-at.at-index _ _ _ _ c.loop-at-test.true (numbering.get_again c.loop-at.at-index _ _ c.loop-at-test.true) c.loop-at.invariant c.in_ok-push_value.ensures
