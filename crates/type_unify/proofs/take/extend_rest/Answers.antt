use Rattle.std.proofs.Common.{◌∙◌, ap}
use Rattle.type_unify.proofs.Narrowing.{ok_map, grown_none, grown_more, grown_through}
use Rattle.type_unify.proofs.Taking.{rest_end, rowed, rowed_variable, rowed_target, rowed_heavier, extends_taken, extends_refused, takes_at}
use Rattle.type_unify.proofs.take.extend_rest.Goals as goal

pub bind-requires-clause-variable : goal.bind-requires-clause-variable
bind-requires-clause-variable c =
    let m = c.in_ok-row.ensures in
    let r = rowed c.args.store.now c.make.new.self _ c.args.at c.find-end.result _ _ _ _ c.find-end.ensures.sound c.requires.apart c.requires.can (rest_end _ _ _ _ _ c.requires.can c.find-end.ensures.leads) c.rest_term.ensures m.place m.state m.solutions m.extends in
    rowed_variable _ _ _ _ _ _ r

pub bind-requires-clause-target : goal.bind-requires-clause-target
bind-requires-clause-target c =
    let m = c.in_ok-row.ensures in
    let r = rowed c.args.store.now c.make.new.self _ c.args.at c.find-end.result _ _ _ _ c.find-end.ensures.sound c.requires.apart c.requires.can (rest_end _ _ _ _ _ c.requires.can c.find-end.ensures.leads) c.rest_term.ensures m.place m.state m.solutions m.extends in
    rowed_target _ _ _ _ _ _ r

pub bind-requires-clause-heavier : goal.bind-requires-clause-heavier
bind-requires-clause-heavier c =
    let m = c.in_ok-row.ensures in
    let r = rowed c.args.store.now c.make.new.self _ c.args.at c.find-end.result _ _ _ _ c.find-end.ensures.sound c.requires.apart c.requires.can (rest_end _ _ _ _ _ c.requires.can c.find-end.ensures.leads) c.rest_term.ensures m.place m.state m.solutions m.extends in
    λ s h. rowed_heavier _ _ _ _ _ _ r s h

pub bind-requires-clause-apart : goal.bind-requires-clause-apart
bind-requires-clause-apart c =
    let m = c.in_ok-row.ensures in
    let r = rowed c.args.store.now c.make.new.self _ c.args.at c.find-end.result _ _ _ _ c.find-end.ensures.sound c.requires.apart c.requires.can (rest_end _ _ _ _ _ c.requires.can c.find-end.ensures.leads) c.rest_term.ensures m.place m.state m.solutions m.extends in
    r.apart

pub returns-clause-taken : goal.returns-clause-taken
returns-clause-taken c =
    let m = c.in_ok-row.ensures in
    let r = rowed c.args.store.now c.make.new.self _ c.args.at c.find-end.result _ _ _ _ c.find-end.ensures.sound c.requires.apart c.requires.can (rest_end _ _ _ _ _ c.requires.can c.find-end.ensures.leads) c.rest_term.ensures m.place m.state m.solutions m.extends in
    ok_map _ _ _ c.bind.ensures.bound (λ b. takes_at _ _ _ _ _ _ (rest_end _ _ _ _ _ c.requires.can c.find-end.ensures.leads) (extends_taken _ _ _ _ _ _ _ r b))

pub returns-clause-grown : goal.returns-clause-grown
returns-clause-grown c =
    let m = c.in_ok-row.ensures in
    let r = rowed c.args.store.now c.make.new.self _ c.args.at c.find-end.result _ _ _ _ c.find-end.ensures.sound c.requires.apart c.requires.can (rest_end _ _ _ _ _ c.requires.can c.find-end.ensures.leads) c.rest_term.ensures m.place m.state m.solutions m.extends in
    grown_through _ _ _ (grown_more _ _ _ _ (grown_none _) m.state (λ each. r.apart)) c.bind.ensures.grown

pub returns-clause-refused : goal.returns-clause-refused
returns-clause-refused c =
    let m = c.in_ok-row.ensures in
    let r = rowed c.args.store.now c.make.new.self _ c.args.at c.find-end.result _ _ _ _ c.find-end.ensures.sound c.requires.apart c.requires.can (rest_end _ _ _ _ _ c.requires.can c.find-end.ensures.leads) c.rest_term.ensures m.place m.state m.solutions m.extends in
    λ why e s h holds. extends_refused _ _ _ _ _ _ r (c.bind.ensures.refused why e) s h
    (ap s (rest_end _ _ _ _ _ c.requires.can c.find-end.ensures.leads) ∙ holds)
