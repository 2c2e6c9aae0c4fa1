use Rattle.std.proofs.Common.{sym, rules}
use Rattle.module_visits.specs.Stack.{visits_of}
use Rattle.module_visits.proofs.Told.{told, all_told}
use Rattle.module_visits.proofs.Nexts.{gives_none, gives_found, gives_stop}
use Rattle.module_visits.proofs.visits.next_module.Goals as goal

pub returns-in_default-clause-next : goal.returns-in_default-clause-next
returns-in_default-clause-next g c =
    all_told (g.H.Shelf.files c.args.shelf.now) _
    (λ files. gives_none files c.args.folder.now c.args.visit.now (visits_of c.args.under.now) c.args.ended.now c.next_place-at.result c.next_place-at.ensures
    (sym c.in_default.ensures.value))

pub returns-in-Err-clause-next : goal.returns-in-Err-clause-next
returns-in-Err-clause-next g c =
    told (g.H.Shelf.files c.args.shelf.now) _ _
    (λ files asks. gives_stop files c.args.folder.now c.args.visit.now (visits_of c.args.under.now) c.args.ended.now c.next_place-at.result c.next_place-at.ensures
    c.in-Some.import.now _ _ (sym c.in-Some.ensures.value) (search rules) asks) c.in-Err.ensures.asks

pub returns-in-Ok-clause-next : goal.returns-in-Ok-clause-next
returns-in-Ok-clause-next g c =
    told (g.H.Shelf.files c.args.shelf.now) _ _
    (λ files asks. gives_found files c.args.folder.now c.args.visit.now (visits_of c.args.under.now) c.args.ended.now c.next_place-at.result c.next_place-at.ensures
    c.in-Some.import.now _ _ (sym c.in-Some.ensures.value) (search rules) asks) c.in-Ok.ensures.asks
