use Rattle.std.proofs.Common.{◌≡◌, ◌∙◌, Err, ap}
use Rattle.elm_base.specs.declared.memory.Halt.TheVariants.{Because}
use Rattle.elm_typing.specs.declared.flag.Flag.TheVariants.{Plain}
use Rattle.type_terms.specs.declared.shape.Shape.TheVariants as shape
use Rattle.type_terms.specs.Terms.{nodes_of}
use Rattle.type_unify.proofs.Adding.{leaf_apart}
use Rattle.type_unify.proofs.Narrowing.{grown_none, grown_more, grown_same, grown_through}
use Rattle.type_unify.proofs.Taking.{tail_end, fresh_end, opened, opened_variable, opened_target, opened_heavier, opens_rest, opens_at, open_refused}
use Rattle.type_unify.proofs.take.open_rest.Goals as goal

pub returns-in_err-row-clause-grown : goal.returns-in_err-row-clause-grown
returns-in_err-row-clause-grown c = grown_same _ _ _ (grown_more _ _ _ _ (grown_none _) c.in_ok-variable.ensures.state (λ each. leaf_apart _ _ _ (shape.Variable Plain) c.find-end.ensures.sound tt c.requires.apart (ap nodes_of c.in_ok-variable.ensures.state))) c.in_err-row.ensures.refused

pub bind-requires-clause-variable : goal.bind-requires-clause-variable
bind-requires-clause-variable c =
    let f = c.in_ok-variable.ensures in
    let m = c.in_ok-row.ensures in
    let same = tail_end _ _ _ c.requires.source c.find-end.ensures.leads in
    let r = opened c.args.store.now c.fresh.new.self c.make.new.self _ _ c.args.at c.find-end.result _ c.find-rest.result _ c.args.fields c.find-end.ensures.sound c.find-rest.ensures.sound
    c.requires.apart c.requires.source c.requires.types same f.place (fresh_end c.args.store.now c.fresh.new.self _ _ f.place f.state c.find-rest.ensures.leads)
    f.state f.solutions f.extends m.place m.state m.solutions m.extends in
    opened_variable _ _ _ _ _ _ r

pub bind-requires-clause-target : goal.bind-requires-clause-target
bind-requires-clause-target c =
    let f = c.in_ok-variable.ensures in
    let m = c.in_ok-row.ensures in
    let same = tail_end _ _ _ c.requires.source c.find-end.ensures.leads in
    let r = opened c.args.store.now c.fresh.new.self c.make.new.self _ _ c.args.at c.find-end.result _ c.find-rest.result _ c.args.fields c.find-end.ensures.sound c.find-rest.ensures.sound
    c.requires.apart c.requires.source c.requires.types same f.place (fresh_end c.args.store.now c.fresh.new.self _ _ f.place f.state c.find-rest.ensures.leads)
    f.state f.solutions f.extends m.place m.state m.solutions m.extends in
    opened_target _ _ _ _ _ _ r

pub bind-requires-clause-heavier : goal.bind-requires-clause-heavier
bind-requires-clause-heavier c =
    let f = c.in_ok-variable.ensures in
    let m = c.in_ok-row.ensures in
    let same = tail_end _ _ _ c.requires.source c.find-end.ensures.leads in
    let r = opened c.args.store.now c.fresh.new.self c.make.new.self _ _ c.args.at c.find-end.result _ c.find-rest.result _ c.args.fields c.find-end.ensures.sound c.find-rest.ensures.sound
    c.requires.apart c.requires.source c.requires.types same f.place (fresh_end c.args.store.now c.fresh.new.self _ _ f.place f.state c.find-rest.ensures.leads)
    f.state f.solutions f.extends m.place m.state m.solutions m.extends in
    λ s h. opened_heavier _ _ _ _ _ _ r s h

pub bind-requires-clause-apart : goal.bind-requires-clause-apart
bind-requires-clause-apart c =
    let f = c.in_ok-variable.ensures in
    let m = c.in_ok-row.ensures in
    let same = tail_end _ _ _ c.requires.source c.find-end.ensures.leads in
    let r = opened c.args.store.now c.fresh.new.self c.make.new.self _ _ c.args.at c.find-end.result _ c.find-rest.result _ c.args.fields c.find-end.ensures.sound c.find-rest.ensures.sound
    c.requires.apart c.requires.source c.requires.types same f.place (fresh_end c.args.store.now c.fresh.new.self _ _ f.place f.state c.find-rest.ensures.leads)
    f.state f.solutions f.extends m.place m.state m.solutions m.extends in
    r.apart

pub returns-in-Ok-clause-opened : goal.returns-in-Ok-clause-opened
returns-in-Ok-clause-opened c =
    let f = c.in_ok-variable.ensures in
    let m = c.in_ok-row.ensures in
    let same = tail_end _ _ _ c.requires.source c.find-end.ensures.leads in
    let r = opened c.args.store.now c.fresh.new.self c.make.new.self _ _ c.args.at c.find-end.result _ c.find-rest.result _ c.args.fields c.find-end.ensures.sound c.find-rest.ensures.sound
    c.requires.apart c.requires.source c.requires.types same f.place (fresh_end c.args.store.now c.fresh.new.self _ _ f.place f.state c.find-rest.ensures.leads)
    f.state f.solutions f.extends m.place m.state m.solutions m.extends in
    opens_at _ _ _ _ _ _ same (opens_rest _ _ _ _ _ _ _ r c.requires.types c.in-Ok.ensures.bound)

pub returns-in-Ok-clause-grown : goal.returns-in-Ok-clause-grown
returns-in-Ok-clause-grown c =
    let f = c.in_ok-variable.ensures in
    let m = c.in_ok-row.ensures in
    let same = tail_end _ _ _ c.requires.source c.find-end.ensures.leads in
    let r = opened c.args.store.now c.fresh.new.self c.make.new.self _ _ c.args.at c.find-end.result _ c.find-rest.result _ c.args.fields c.find-end.ensures.sound c.find-rest.ensures.sound
    c.requires.apart c.requires.source c.requires.types same f.place (fresh_end c.args.store.now c.fresh.new.self _ _ f.place f.state c.find-rest.ensures.leads)
    f.state f.solutions f.extends m.place m.state m.solutions m.extends in
    grown_through _ _ _ (grown_more _ _ _ _ (grown_more _ _ _ _ (grown_none _) c.in_ok-variable.ensures.state (λ each. leaf_apart _ _ _ (shape.Variable Plain) c.find-end.ensures.sound tt c.requires.apart (ap nodes_of c.in_ok-variable.ensures.state))) c.in_ok-row.ensures.state (λ each. r.apart)) c.bind.ensures.grown

pub returns-in-Err-clause-grown : goal.returns-in-Err-clause-grown
returns-in-Err-clause-grown c =
    let f = c.in_ok-variable.ensures in
    let m = c.in_ok-row.ensures in
    let same = tail_end _ _ _ c.requires.source c.find-end.ensures.leads in
    let r = opened c.args.store.now c.fresh.new.self c.make.new.self _ _ c.args.at c.find-end.result _ c.find-rest.result _ c.args.fields c.find-end.ensures.sound c.find-rest.ensures.sound
    c.requires.apart c.requires.source c.requires.types same f.place (fresh_end c.args.store.now c.fresh.new.self _ _ f.place f.state c.find-rest.ensures.leads)
    f.state f.solutions f.extends m.place m.state m.solutions m.extends in
    grown_through _ _ _ (grown_more _ _ _ _ (grown_more _ _ _ _ (grown_none _) c.in_ok-variable.ensures.state (λ each. leaf_apart _ _ _ (shape.Variable Plain) c.find-end.ensures.sound tt c.requires.apart (ap nodes_of c.in_ok-variable.ensures.state))) c.in_ok-row.ensures.state (λ each. r.apart)) c.bind.ensures.grown

pub returns-in-Err-clause-refused : goal.returns-in-Err-clause-refused
returns-in-Err-clause-refused c =
    let f = c.in_ok-variable.ensures in
    let m = c.in_ok-row.ensures in
    let same = tail_end _ _ _ c.requires.source c.find-end.ensures.leads in
    let r = opened c.args.store.now c.fresh.new.self c.make.new.self _ _ c.args.at c.find-end.result _ c.find-rest.result _ c.args.fields c.find-end.ensures.sound c.find-rest.ensures.sound
    c.requires.apart c.requires.source c.requires.types same f.place (fresh_end c.args.store.now c.fresh.new.self _ _ f.place f.state c.find-rest.ensures.leads)
    f.state f.solutions f.extends m.place m.state m.solutions m.extends in
    λ why e s row h o x. open_refused _ _ _ _ _ _ r c.requires.types
    (let i : c.in-Err.halt ≡ Because why = cc e in c.bind.ensures.refused why (c.in-Err.is ∙ ap Err i)) s row h o (ap s same ∙ x)
