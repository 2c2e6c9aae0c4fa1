use Rattle.std.proofs.Common.{◌∙◌}
use Rattle.module_visits.specs.Stack.{visits_of}
use Rattle.module_visits.proofs.Rounds.{goes_on, stops_all, ends_all}
use Rattle.module_visits.proofs.visits.visit_all.Goals as goal

pub turns-preserved : goal.turns-preserved
turns-preserved g c = record {
  few = c.in-Ok.ensures.few;
  quiet = c.in-Ok.ensures.count ∙ c.turns.invariant.quiet;
  same = c.in-Ok.ensures.same ∙ c.turns.invariant.same;
  goes = goes_on (g.H.Shelf.files c.args.shelf.now) (g.H.Shelf.files c.turns.shelf) c.args.folder.now (visits_of c.turns.under) c.in-Some.visit
      _ _ c.turns.ended _ c.turns.invariant.same c.in-Some.ensures c.turns.invariant.goes c.in-Ok.ensures.turns;
}

pub returns-in-Err-clause-loads : goal.returns-in-Err-clause-loads
returns-in-Err-clause-loads g c =
    stops_all (g.H.Shelf.files c.args.shelf.now) (g.H.Shelf.files c.turns.shelf) c.args.folder.now (visits_of c.turns.under) c.in-Some.visit
    _ _ c.turns.ended _ _ c.turns.invariant.same c.in-Some.ensures c.turns.invariant.goes c.in-Err.ensures.turns

pub returns-clause-loads : goal.returns-clause-loads
returns-clause-loads g c =
    ends_all (g.H.Shelf.files c.args.shelf.now) c.args.folder.now (visits_of c.turns.under) c.turns.ended c.in_default.ensures.0 c.turns.invariant.goes
