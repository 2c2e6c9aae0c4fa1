use Rattle.std.proofs.Common.{◌≡◌, Some, rules, subst, ap, ◌∙◌, Ok}
use Rattle.module_visits.specs.Stack.{visits_of, GivesNext}
use Rattle.module_visits.proofs.Turning.{stops_all, ends_newest, begins_next}
use Rattle.module_visits.proofs.visits.follow.Goals as goal

pub returns-in-Err-clause-turns : goal.returns-in-Err-clause-turns
returns-in-Err-clause-turns c = λ files folder gives.
    stops_all files folder c.args.visit (visits_of c.args.under.now) c.args.ended.now c.in-Err.stop _ _
    (subst (λ next. GivesNext files folder c.args.visit (visits_of c.args.under.now) c.args.ended.now next) c.in-Err.is gives)

pub returns-in-Ok-None-clause-turns : goal.returns-in-Ok-None-clause-turns
returns-in-Ok-None-clause-turns c = λ files folder gives.
    ends_newest files folder c.args.visit (visits_of c.args.under.now) c.args.ended.now c.end_visit.result _
    (subst (λ next. GivesNext files folder c.args.visit (visits_of c.args.under.now) c.args.ended.now next) (c.in-Ok-None.is ∙ ap Ok c.in-Ok-None.field-0-is) gives)
    c.end_visit.ensures.ends c.end_visit.ensures.memory

pub returns-in-Ok-Some-clause-turns : goal.returns-in-Ok-Some-clause-turns
returns-in-Ok-Some-clause-turns c = λ files folder gives.
    let same : c.args.next ≡ Ok (Some (c.in-Ok-Some.done, c.in-Ok-Some.«module»)) =
    first_of (cc (c.in-Ok-Some.is, c.in-Ok-Some.field-0-is, c.in-Ok-Some.done-is, c.in-Ok-Some.module-is), search rules) in
    begins_next files folder c.args.visit (visits_of c.args.under.now) c.args.ended.now c.begin_visit.result _ (c.in-Ok-Some.done, c.in-Ok-Some.«module»)
    (subst (λ next. GivesNext files folder c.args.visit (visits_of c.args.under.now) c.args.ended.now next) same gives)
    c.begin_visit.ensures.begins c.begin_visit.ensures.memory
