use Rattle.std.proofs.Common.{◌≡◌, ◌∙◌, true, false, sym, rules, arith}
use Rattle.module_visits.specs.Visits as spec
use Rattle.module_visits.proofs.Passing.{passed_on, stops_there, stops_none, stops_behind}
use Rattle.module_visits.proofs.visits.next_place.Goals as goal

pub returns-in_default : goal.returns-in_default
returns-in_default c =
    stops_none c.args.ended.now c.args.imports.now c.imports.at (sym c.in_default.ensures.value) ∙ c.imports.invariant

pub returns-then-not-is_passed : goal.returns-then-not-is_passed
returns-then-not-is_passed c =
    let stopped : spec.is_passed c.args.ended.now c.in-Some.import.now ≡ false = search rules in
    stops_there c.args.ended.now c.args.imports.now c.imports.at c.in-Some.import.now (sym c.in-Some.ensures.value) stopped ∙ c.imports.invariant

pub imports-preserved : goal.imports-preserved
imports-preserved c =
    let passed : spec.is_passed c.args.ended.now c.in-Some.import.now ≡ true = search rules in
    passed_on c.args.ended.now c.args.imports.now c.imports.at c.in-Some.import.now (sym c.in-Some.ensures.value) passed ∙ c.imports.invariant

pub returns : goal.returns
returns c =
    stops_behind c.args.ended.now c.args.imports.now c.imports.at (omega arith) ∙ c.imports.invariant
