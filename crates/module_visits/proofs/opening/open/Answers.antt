use Rattle.module_visits.specs.Files.{held}
use Rattle.module_visits.specs.Reading.{asker}
use Rattle.module_visits.proofs.Told.{told, opens_as}
use Rattle.module_visits.proofs.opening.open.Goals as goal

pub returns-clause-opens : goal.returns-clause-opens
returns-clause-opens g c =
    told (g.H.Shelf.files c.args.shelf.now) _ _
    (λ files text. opens_as files c.args.folder.now c.args.count (asker c.args.by) c.args.name.now c.opened.result
    (c.opened.ensures.opens (held files c.args.folder.now c.args.name.now) text)) c.in_ok-file.ensures.file
