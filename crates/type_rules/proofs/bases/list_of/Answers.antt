use Rattle.std.proofs.Common.{◌++◌, ◌∷◌, [], ◌∙◌, ap}
use Rattle.type_conditions.proofs.Composing.{if_ok-map}
use Rattle.type_rules.proofs.Ruling.{list-added}
use Rattle.type_rules.proofs.bases.list_of.Goals as goal

pub returns-clause-adds : goal.returns-clause-adds
returns-clause-adds c = if_ok-map c.make.result _ _ (λ at a. list-added c.args.conditions.now c.make.new.self c.in_ok-name.name _ c.args.element at c.in_ok-name.ensures (c.in_ok-push.ensures.ok ∙ ap (λ l. l ++ c.args.element ∷ []) c.new-arguments.ensures) a) c.make.ensures.adds
