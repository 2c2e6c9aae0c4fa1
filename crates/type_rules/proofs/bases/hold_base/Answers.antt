use Rattle.type_terms.proofs.Outcomes.{on_ok}
use Rattle.type_rules.proofs.Ruling.{base-held, base-refused, on_refusal}
use Rattle.type_rules.proofs.bases.hold_base.Goals as goal

pub equate-requires-clause-first : goal.equate-requires-clause-first
equate-requires-clause-first c = c.in_ok-wanted.ensures.adds.grows.types _ c.requires

pub returns-clause-restricts : goal.returns-clause-restricts
returns-clause-restricts c =
    on_ok c.equate.result _ _ (base-held c.args.conditions.now c.base.new.conditions c.equate.new.self c.args.name.now c.args.at c.in_ok-wanted.wanted c.requires c.in_ok-wanted.ensures.adds) c.equate.ensures.restricts

pub returns-clause-refused : goal.returns-clause-refused
returns-clause-refused c =
    on_refusal c.equate.result _ _ (base-refused c.args.conditions.now c.base.new.conditions c.args.name.now c.args.at c.in_ok-wanted.wanted c.requires c.in_ok-wanted.ensures.adds) c.equate.ensures.refused
