use Rattle.type_conditions.specs.Judging.{Adds, HasOne}
use Rattle.type_conditions.specs.Conditions.{Excludes}
use Rattle.type_rules.specs.Ruled.{IsField}
use Rattle.type_rules.proofs.Recording.{field-added, field-refused}
use Rattle.type_rules.proofs.Ruling.{given-adds, given-refused}
use Rattle.type_rules.proofs.records.field.Goals as goal

pub has_newest-requires-clause-record : goal.has_newest-requires-clause-record
has_newest-requires-clause-record c = c.in_ok-value.ensures.adds.grows.types _ c.requires

pub returns-clause-adds : goal.returns-clause-adds
returns-clause-adds c =
    given-adds c.has_newest.result c.given.result c.in_ok-value.value _ (Adds c.args.conditions.now c.has_newest.new.conditions (IsField c.args.from c.args.label.now)) c.given.ensures.done c.has_newest.ensures.restricts
    (field-added c.args.conditions.now c.variable.new.self c.has_newest.new.conditions c.args.from c.in_ok-value.value c.args.label.now c.requires c.in_ok-value.ensures.adds)

pub returns-clause-refused : goal.returns-clause-refused
returns-clause-refused c =
    given-refused c.has_newest.result c.given.result _ (Excludes c.args.conditions.now (HasOne (IsField c.args.from c.args.label.now))) c.given.ensures.refused c.has_newest.ensures.refused
    (field-refused c.args.conditions.now c.variable.new.self c.args.from c.in_ok-value.value c.args.label.now c.requires c.in_ok-value.ensures.adds)
