use Rattle.type_terms.specs.Terms.{nodes_of}
use Rattle.sort_closure.proofs.Filling.{closed-says, note-filled, note-inside, taken-all}
use Rattle.sort_closure.proofs.closing.closed.Goals as goal

pub find-requires : goal.find-requires
find-requires c = (note-inside _ c.args.notes.now c.loop-below.below-index (0, 0) c.requires c.loop-below-test.true).0

pub find-requires-in-loop-below : goal.find-requires-in-loop-below
find-requires-in-loop-below c = (note-inside _ c.args.notes.now c.loop-below.below-index (0, 0) c.requires c.loop-below-test.true).1

pub loop-below-preserved : goal.loop-below-preserved
loop-below-preserved c =
    note-filled (nodes_of c.args.store.now) c.args.notes.now c.loop-below.below-index (0, 0) c.loop-below.table c.set.new.self c.find.result c.find-in-loop-below.result c.loop-below-test.true
    c.find.ensures.leads c.find.ensures.end c.find-in-loop-below.ensures.leads c.find-in-loop-below.ensures.end c.find.ensures.inside c.find-in-loop-below.ensures.inside
    c.loop-below.invariant c.set.ensures.width c.set.ensures.one_set

pub returns : goal.returns
returns c =
    closed-says (nodes_of c.args.store.now) c.args.notes.now _ c.loop-below.table c.close.new.self (taken-all c.args.notes.now c.loop-below.below-index c.loop-below-test.false)
    c.loop-below.invariant c.close.ensures.width c.close.ensures.height c.close.ensures.closed
