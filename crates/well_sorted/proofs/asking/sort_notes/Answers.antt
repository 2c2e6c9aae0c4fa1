use Rattle.type_terms.specs.Depth.{doubled, weight}
use Rattle.type_terms.specs.Terms.{nodes_of}
use Rattle.std.proofs.Common.{length}
use Rattle.well_sorted.proofs.Waiting.{waits-on, waits-lighter}
use Rattle.well_sorted.proofs.asking.sort_notes.Goals as goal

pub terms-smaller : goal.terms-smaller
terms-smaller c =
    waits-lighter (weight c.args.store.now) _ _ _ _ _ c.in-Some.ensures c.shape-shape.ensures.lighter c.in_ok-push_parts.ensures

pub terms-preserved : goal.terms-preserved
terms-preserved c =
    waits-on (nodes_of c.args.store.now) (doubled (length c.args.store.now)) _ _ c.shape-shape.ensures.end.0 _ _ _ _ _ _ _ c.stays_sound.ensures
    c.terms.invariant c.in-Some.ensures c.shape-shape.ensures.end.1 c.shape-shape.ensures.end.2 c.shape-shape.ensures.inside
    c.in_ok-note_parts.ensures c.in_ok-push_parts.ensures
