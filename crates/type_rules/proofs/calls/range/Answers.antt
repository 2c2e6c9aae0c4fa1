use Rattle.std.proofs.Common.{◌≡◌, ◌∙◌, ap, Err}
use Rattle.elm_base.specs.declared.memory.Halt.TheVariants.{Because}
use Rattle.type_rules.proofs.Ruling.{ranged, low-refused, high-refused}
use Rattle.type_rules.proofs.calls.range.Goals as goal

pub hold_base-requires-2 : goal.hold_base-requires-2
hold_base-requires-2 c = c.in-Ok.ensures.restricts.grows.types _ c.requires.high

pub list_of-requires : goal.list_of-requires
list_of-requires c = c.in-Ok-hold_base.ensures.restricts.grows.types _ (c.in-Ok.ensures.restricts.grows.types _ c.requires.low)

pub returns-in-Err-clause-refused : goal.returns-in-Err-clause-refused
returns-in-Err-clause-refused c = λ why e.
    let i : c.in-Err.halt ≡ Because why = cc e in
    low-refused c.args.conditions.now c.args.low c.args.high (c.hold_base.ensures.refused why (c.in-Err.is ∙ ap Err i))

pub returns-in-Err-hold_base-clause-refused : goal.returns-in-Err-hold_base-clause-refused
returns-in-Err-hold_base-clause-refused c = λ why e.
    let i : c.in-Err-hold_base.halt ≡ Because why = cc e in
    high-refused c.args.conditions.now c.hold_base.new.conditions c.args.low c.args.high c.requires.high c.in-Ok.ensures.restricts (c.hold_base-2.ensures.refused why (c.in-Err-hold_base.is ∙ ap Err i))

pub returns-clause-adds : goal.returns-clause-adds
returns-clause-adds c =
    ranged c.args.conditions.now c.hold_base.new.conditions c.hold_base-2.new.conditions c.list_of.new.conditions c.args.low c.args.high c.in_ok-whole.whole c.requires.low c.requires.high
    c.in-Ok.ensures.restricts c.in-Ok-hold_base.ensures.restricts c.in_ok-whole.ensures.adds
