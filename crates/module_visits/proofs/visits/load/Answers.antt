use Rattle.module_visits.proofs.Told.{told}
use Rattle.module_visits.proofs.Outcomes.{agrees_as}
use Rattle.module_visits.proofs.visits.load.Goals as goal

pub returns-clause-exact : goal.returns-clause-exact
returns-clause-exact g c =
    told (g.H.Shelf.files c.args.shelf.now) _ _
    (λ files loads o h. agrees_as files c.args.folder.now o c.visit_all.result loads h) c.visit_all.ensures.loads
