use Rattle.type_conditions.specs.Judging.{Adds, HasOne}
use Rattle.type_conditions.specs.Conditions.{Excludes}
use Rattle.type_rules.specs.Ruled.{IsExtension}
use Rattle.type_rules.proofs.Recording.{extension-added, extension-refused, each-type, no-fields}
use Rattle.type_rules.proofs.Ruling.{given-adds, given-refused}
use Rattle.type_rules.proofs.records.extend.Goals as goal

pub make_row-requires-clause-types : goal.make_row-requires-clause-types
make_row-requires-clause-types c = each-type c.args.conditions.now c.make_rest.new.self _ c.in_ok-tail.ensures.grows c.requires.fields

pub equate-requires-clause-first : goal.equate-requires-clause-first
equate-requires-clause-first c = c.in_ok-before.ensures.adds.grows.types _ (c.in_ok-whole.ensures.adds.grows.types _ (c.in_ok-tail.ensures.grows.types _ c.requires.record))

pub returns-clause-adds : goal.returns-clause-adds
returns-clause-adds c =
    given-adds c.equate.result c.given.result c.in_ok-whole.whole _ (Adds c.args.conditions.now c.equate.new.self (IsExtension c.args.from c.args.fields)) c.given.ensures.done c.equate.ensures.restricts
    (extension-added c.args.conditions.now c.make_rest.new.self c.make_row.new.self c.make_row-2.new.self c.equate.new.self c.args.from c.in_ok-whole.whole c.in_ok-before.before c.args.fields c.in_ok-tail.tail c.requires.record c.requires.fields
    c.in_ok-tail.ensures c.in_ok-whole.ensures.adds (no-fields c.make_row.new.self c.make_row-2.new.self _ _ _ c.new.ensures c.in_ok-before.ensures.adds))

pub returns-clause-refused : goal.returns-clause-refused
returns-clause-refused c =
    given-refused c.equate.result c.given.result _ (Excludes c.args.conditions.now (HasOne (IsExtension c.args.from c.args.fields))) c.given.ensures.refused c.equate.ensures.refused
    (extension-refused c.args.conditions.now c.make_rest.new.self c.make_row.new.self c.make_row-2.new.self c.args.from c.in_ok-whole.whole c.in_ok-before.before c.args.fields c.in_ok-tail.tail c.requires.record c.requires.fields
    c.in_ok-tail.ensures c.in_ok-whole.ensures.adds (no-fields c.make_row.new.self c.make_row-2.new.self _ _ _ c.new.ensures c.in_ok-before.ensures.adds))
