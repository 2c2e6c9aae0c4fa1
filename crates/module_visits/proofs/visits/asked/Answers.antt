use Rattle.std.proofs.Common.{◌≡◌, ◌∷◌, false, subst, rules}
use Rattle.module_visits.specs.Answers.{OpensAs}
use Rattle.module_visits.specs.Reading.{asker}
use Rattle.module_visits.specs.Visits.{is_among}
use Rattle.module_visits.specs.Stack.{modules, visits_of}
use Rattle.module_visits.proofs.Told.{told, asks_as}
use Rattle.module_visits.proofs.visits.asked.Goals as goal

pub returns-clause-asks : goal.returns-clause-asks
returns-clause-asks g c =
    let none : is_among (c.args.module.now ∷ modules (visits_of c.args.under.now)) c.args.import.now.module ≡ false =
    search rules in
    told (g.H.Shelf.files c.args.shelf.now) _ _
    (λ files opens. asks_as files c.args.folder.now c.args.module.now (modules (visits_of c.args.under.now)) c.args.count c.args.import.now c.open.result none
    (subst (λ by. OpensAs files c.args.folder.now c.args.count by c.args.import.now.module c.open.result) c.importer.ensures
    (subst (λ name. OpensAs files c.args.folder.now c.args.count (asker c.importer.result) name c.open.result) c.bytes-name.ensures opens))) c.open.ensures.opens
