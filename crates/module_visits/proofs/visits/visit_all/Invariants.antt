use Rattle.std.proofs.Common.{◌≡◌, ◌+◌, ◌≤◌, length, IfSome}
use Rattle.module_visits.specs.Opening.{most_modules}
use Rattle.module_visits.specs.Visits.{Outcome, Loads}
use Rattle.module_visits.specs.Stack.{Goes, turns, visits_of}
use Rattle.module_visits.proofs.visits.visit_all.Given as goal

-- nothing has failed, no file has changed, and what comes of the visits under way comes of the project
abbrev pub invariant-turns : goal.invariant-turns
invariant-turns g l = record {
  few : length (visits_of l.under) + length l.ended ≤ most_modules;
  quiet : g.H.Shelf.faults l.shelf ≡ g.H.Shelf.faults l.fn.shelf;
  same : g.H.Shelf.files l.shelf ≡ g.H.Shelf.files l.fn.shelf;
  goes : IfSome (g.H.Shelf.files l.fn.shelf) (λ files. (o : Outcome) → Goes files l.folder (visits_of l.under) l.ended o → Loads files l.folder o);
}

abbrev pub decreases-turns : goal.decreases-turns
decreases-turns g l = turns (visits_of l.under) l.ended
