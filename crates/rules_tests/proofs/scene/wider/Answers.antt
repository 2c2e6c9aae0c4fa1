use Rattle.type_conditions.proofs.Composing.{if_ok-map}
use Rattle.rules_tests.proofs.scene.wider.Goals as goal

pub returns : goal.returns
returns c = if_ok-map c.extend.result _ _ (λ at a. a.is_type) c.extend.ensures.adds
