use Rattle.std.proofs.Common.{IfOk, subst, sym}
use Rattle.elm_base.specs.declared.term.Literal.{Literal}
use Rattle.type_conditions.specs.Judging.{Adds}
use Rattle.type_conditions.proofs.Composing.{if_ok-map}
use Rattle.type_rules.specs.Ruled.{IsLiteral}
use Rattle.type_rules.proofs.Ruling.{unit-added}
use Rattle.type_rules.proofs.bases.literal.Goals as goal

pub returns-in-Int-clause-adds : goal.returns-in-Int-clause-adds
returns-in-Int-clause-adds c =
    subst (λ (v : Literal). IfOk c.base.result (Adds c.args.conditions.now c.base.new.conditions (IsLiteral v))) (sym c.in-Int.is) c.base.ensures.adds

pub returns-in-Char-clause-adds : goal.returns-in-Char-clause-adds
returns-in-Char-clause-adds c =
    subst (λ (v : Literal). IfOk c.base-in-Char.result (Adds c.args.conditions.now c.base-in-Char.new.conditions (IsLiteral v))) (sym c.in-Char.is) c.base-in-Char.ensures.adds

pub returns-in-Text-clause-adds : goal.returns-in-Text-clause-adds
returns-in-Text-clause-adds c =
    subst (λ (v : Literal). IfOk c.base-in-Text.result (Adds c.args.conditions.now c.base-in-Text.new.conditions (IsLiteral v))) (sym c.in-Text.is) c.base-in-Text.ensures.adds

pub returns-in-Unit-clause-adds : goal.returns-in-Unit-clause-adds
returns-in-Unit-clause-adds c =
    subst (λ (v : Literal). IfOk c.make.result (Adds c.args.conditions.now c.make.new.self (IsLiteral v))) (sym c.in-Unit.is)
    (if_ok-map c.make.result _ _ (λ at a. unit-added c.args.conditions.now c.make.new.self _ at c.new.ensures a) c.make.ensures.adds)
