use Rattle.elm_base.specs.declared.tree.Operator.{Operator}
use Rattle.name_steps.specs.PatternNames.{spot_of}
use Rattle.name_steps.proofs.Rows.{pushed}
use Rattle.name_steps.proofs.pushes.push_operators.Goals as goal

pub loop-operator-preserved : goal.loop-operator-preserved
loop-operator-preserved c =
    pushed (λ (operator : Operator). spot_of operator.at operator.name) c.args.operators.now c.loop-operator.operator-index c.operator-item.result
    c.loop-operator.spots c.push_spot.new.out c.loop-operator-test.true c.operator-item.is c.loop-operator.invariant c.in_ok-push_spot.ensures
