use Rattle.type_conditions.proofs.Composing.{if_ok-map}
use Rattle.rules_tests.proofs.scene.made.Goals as goal

pub returns-in-Call : goal.returns-in-Call
returns-in-Call c = if_ok-map c.call.result _ _ (λ at a. a.is_type) c.call.ensures.adds

pub returns-in-Range : goal.returns-in-Range
returns-in-Range c = if_ok-map c.range.result _ _ (λ at a. a.is_type) c.range.ensures.adds

pub returns-in-Held : goal.returns-in-Held
returns-in-Held c = if_ok-map c.held.result _ _ (λ at a. a.is_type) c.held.ensures.adds

pub returns-in-Field : goal.returns-in-Field
returns-in-Field c = if_ok-map c.field.result _ _ (λ at a. a.is_type) c.field.ensures.adds

pub returns-in-Remove : goal.returns-in-Remove
returns-in-Remove c = if_ok-map c.remove.result _ _ (λ at a. a.is_type) c.remove.ensures.adds
