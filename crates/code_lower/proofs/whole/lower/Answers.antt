use Rattle.std.proofs.Common.{subst}
use Rattle.code_lower.specs.Whole.{IsSoFar, all_of}
use Rattle.code_lower.proofs.Program.{group_turn, is_code, take_all}
use Rattle.code_lower.proofs.whole.lower.Goals as goal

pub loop-group-preserved : goal.loop-group-preserved
loop-group-preserved c =
    group_turn c.loop-group.code c.push_group.new.code c.loop-group.group-index c.args.groups.now c.group-item.result _ c.loop-group-test.true c.group-item.is c.as_slice.ensures c.loop-group.invariant c.in_ok-push_group.ensures

pub returns : goal.returns
returns c =
    is_code c.args.groups.now c.loop-group.code
    (subst (λ gs. IsSoFar (all_of gs) c.loop-group.code) (take_all c.loop-group.group-index c.args.groups.now c.loop-group-test.false) c.loop-group.invariant)
