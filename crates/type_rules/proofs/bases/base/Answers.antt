use Rattle.type_conditions.proofs.Composing.{if_ok-map}
use Rattle.type_rules.proofs.Ruling.{base-added}
use Rattle.type_rules.proofs.bases.base.Goals as goal

pub returns-clause-adds : goal.returns-clause-adds
returns-clause-adds c = if_ok-map c.make.result _ _ (λ at a. base-added c.args.conditions.now c.make.new.self c.args.name.now c.in_ok-name.name _ at c.in_ok-name.ensures c.new.ensures a) c.make.ensures.adds
