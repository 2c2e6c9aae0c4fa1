use Rattle.type_conditions.specs.Judging.{Adds, HasOne}
use Rattle.type_conditions.specs.Conditions.{Excludes}
use Rattle.type_rules.specs.Ruled.{IsCall}
use Rattle.type_rules.proofs.Ruling.{called, call-refused, given-adds, given-refused}
use Rattle.type_rules.proofs.calls.call.Goals as goal

pub make-requires-clause-parts : goal.make-requires-clause-parts
make-requires-clause-parts c = (c.in_ok-result.ensures.adds.grows.types _ c.requires.argument, (c.in_ok-result.ensures.adds.is_type, tt))

pub equate-requires-clause-first : goal.equate-requires-clause-first
equate-requires-clause-first c = c.in_ok-whole.ensures.adds.grows.types _ (c.in_ok-result.ensures.adds.grows.types _ c.requires.function)

pub returns-clause-adds : goal.returns-clause-adds
returns-clause-adds c =
    given-adds c.equate.result c.given.result c.in_ok-result.result _ (Adds c.args.conditions.now c.equate.new.self (IsCall c.args.function c.args.argument)) c.given.ensures.done c.equate.ensures.restricts
    (called c.args.conditions.now c.variable.new.self c.make.new.self c.equate.new.self c.args.function c.args.argument c.in_ok-result.result c.in_ok-whole.whole c.requires.function c.requires.argument
    c.in_ok-result.ensures.adds c.in_ok-whole.ensures.adds)

pub returns-clause-refused : goal.returns-clause-refused
returns-clause-refused c =
    given-refused c.equate.result c.given.result _ (Excludes c.args.conditions.now (HasOne (IsCall c.args.function c.args.argument))) c.given.ensures.refused c.equate.ensures.refused
    (call-refused c.args.conditions.now c.variable.new.self c.make.new.self c.args.function c.args.argument c.in_ok-result.result c.in_ok-whole.whole c.requires.function c.requires.argument
    c.in_ok-result.ensures.adds c.in_ok-whole.ensures.adds)
