use Rattle.type_sense.specs.WrittenOf.{written_of}
use Rattle.type_conditions.specs.Judging.{Adds, HasOne}
use Rattle.type_conditions.specs.Conditions.{Excludes}
use Rattle.type_rules.specs.Ruled.{IsHeld}
use Rattle.type_rules.proofs.Ruling.{held-adds, held-refused, given-adds, given-refused}
use Rattle.type_rules.proofs.calls.held.Goals as goal

pub equate-requires-clause-first : goal.equate-requires-clause-first
equate-requires-clause-first c = c.in_ok-wanted.ensures.grows.types _ c.requires.term

pub returns-clause-adds : goal.returns-clause-adds
returns-clause-adds c =
    given-adds c.equate.result c.given.result c.in_ok-wanted.wanted _ (Adds c.args.conditions.now c.equate.new.self (IsHeld (written_of c.args.tree.now) c.args.at)) c.given.ensures.done c.equate.ensures.restricts
    (held-adds c.args.conditions.now c.instance.new.conditions c.equate.new.self (written_of c.args.tree.now) c.args.at c.in_ok-wanted.wanted c.requires.term c.in_ok-wanted.ensures)

pub returns-clause-refused : goal.returns-clause-refused
returns-clause-refused c =
    given-refused c.equate.result c.given.result _ (Excludes c.args.conditions.now (HasOne (IsHeld (written_of c.args.tree.now) c.args.at))) c.given.ensures.refused c.equate.ensures.refused
    (held-refused c.args.conditions.now c.instance.new.conditions (written_of c.args.tree.now) c.args.at c.in_ok-wanted.wanted c.requires.term c.in_ok-wanted.ensures)
