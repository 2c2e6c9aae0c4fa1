use Rattle.type_terms.proofs.Outcomes.{on_ok}
use Rattle.type_rules.proofs.Recording.{newest-asked, newest-refused}
use Rattle.type_rules.proofs.Ruling.{on_refusal}
use Rattle.type_rules.proofs.records.has_newest.Goals as goal

pub one_over-requires-clause-value : goal.one_over-requires-clause-value
one_over-requires-clause-value c = c.in_ok-tail.ensures.grows.types _ c.requires.value

pub equate-requires-clause-first : goal.equate-requires-clause-first
equate-requires-clause-first c = c.in_ok-whole.ensures.adds.grows.types _ (c.in_ok-tail.ensures.grows.types _ c.requires.record)

pub returns-clause-restricts : goal.returns-clause-restricts
returns-clause-restricts c =
    on_ok c.equate.result _ _ (newest-asked c.args.conditions.now c.make_rest.new.self c.one_over.new.conditions c.equate.new.self c.args.from c.args.value c.in_ok-whole.whole c.args.label.now c.in_ok-tail.tail c.requires.record c.requires.value
    c.in_ok-tail.ensures c.in_ok-whole.ensures.adds) c.equate.ensures.restricts

pub returns-clause-refused : goal.returns-clause-refused
returns-clause-refused c =
    on_refusal c.equate.result _ _ (newest-refused c.args.conditions.now c.make_rest.new.self c.one_over.new.conditions c.args.from c.args.value c.in_ok-whole.whole c.args.label.now c.in_ok-tail.tail c.requires.record c.requires.value
    c.in_ok-tail.ensures c.in_ok-whole.ensures.adds) c.equate.ensures.refused
