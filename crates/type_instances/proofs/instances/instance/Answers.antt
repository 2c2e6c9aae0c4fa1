use Rattle.type_conditions.proofs.Composing.{if_ok-map}
use Rattle.type_instances.proofs.Whole.{instance-added}
use Rattle.type_instances.proofs.instances.instance.Goals as goal

pub returns : goal.returns
returns c =
    let built = rw c.as_slice.ensures at c.build.ensures in
    if_ok-map c.build.result _ _ (λ at b. instance-added c.args.conditions.now c.variables_of.new.conditions c.build.new.conditions c.in_ok-table.table _ at c.requires
    c.in_ok-table.ensures.chooses c.in_ok-table.ensures.serves c.in_ok-table.ensures.used b) built
