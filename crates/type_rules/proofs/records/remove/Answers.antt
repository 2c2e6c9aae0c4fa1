use Rattle.type_conditions.specs.Judging.{Adds, HasOne}
use Rattle.type_conditions.specs.Conditions.{Excludes}
use Rattle.type_rules.specs.Ruled.{IsRemoval}
use Rattle.type_rules.proofs.Recording.{removal-added, removal-refused, no-fields}
use Rattle.type_rules.proofs.Ruling.{given-adds, given-refused}
use Rattle.type_rules.proofs.records.remove.Goals as goal

pub equate-requires-clause-first : goal.equate-requires-clause-first
equate-requires-clause-first c = c.in_ok-rest.ensures.adds.grows.types _ (c.in_ok-whole.ensures.adds.grows.types _ (c.in_ok-tail.ensures.grows.types _ (c.in_ok-value.ensures.adds.grows.types _ c.requires)))

pub returns-clause-adds : goal.returns-clause-adds
returns-clause-adds c =
    given-adds c.equate.result c.given.result c.in_ok-rest.rest _ (Adds c.args.conditions.now c.equate.new.self (IsRemoval c.args.from c.args.label.now)) c.given.ensures.done c.equate.ensures.restricts
    (removal-added c.args.conditions.now c.variable.new.self c.make_rest.new.self c.one_over.new.conditions c.make_row.new.self c.equate.new.self c.args.from c.in_ok-value.value c.in_ok-whole.whole c.in_ok-rest.rest c.args.label.now c.in_ok-tail.tail c.requires
    c.in_ok-value.ensures.adds c.in_ok-tail.ensures c.in_ok-whole.ensures.adds (no-fields c.one_over.new.conditions c.make_row.new.self _ _ _ c.new.ensures c.in_ok-rest.ensures.adds))

pub returns-clause-refused : goal.returns-clause-refused
returns-clause-refused c =
    given-refused c.equate.result c.given.result _ (Excludes c.args.conditions.now (HasOne (IsRemoval c.args.from c.args.label.now))) c.given.ensures.refused c.equate.ensures.refused
    (removal-refused c.args.conditions.now c.variable.new.self c.make_rest.new.self c.one_over.new.conditions c.make_row.new.self c.args.from c.in_ok-value.value c.in_ok-whole.whole c.in_ok-rest.rest c.args.label.now c.in_ok-tail.tail c.requires
    c.in_ok-value.ensures.adds c.in_ok-tail.ensures c.in_ok-whole.ensures.adds (no-fields c.one_over.new.conditions c.make_row.new.self _ _ _ c.new.ensures c.in_ok-rest.ensures.adds))

pub one_over-requires-clause-value : goal.one_over-requires-clause-value
one_over-requires-clause-value c = c.in_ok-tail.ensures.grows.types _ c.in_ok-value.ensures.adds.is_type

pub equate-requires-clause-second : goal.equate-requires-clause-second
equate-requires-clause-second c = c.in_ok-rest.ensures.adds.grows.types _ c.in_ok-whole.ensures.adds.is_type
