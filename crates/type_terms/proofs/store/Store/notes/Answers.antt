use Rattle.std.proofs.Common.{◌∙◌, length, sym, subst}
use Rattle.type_terms.specs.Terms.{nodes_of}
use Rattle.type_terms.specs.Depth.{AreNotesBelow, AreSound}
use Rattle.type_terms.proofs.Histories.{notes-view}
use Rattle.type_terms.proofs.Sound.{notes-present}
use Rattle.type_terms.proofs.store.Store.notes.Goals as goal

pub returns-clause-notes : goal.returns-clause-notes
returns-clause-notes c =
    c.as_slice.ensures.value
    ∙ sym (notes-view c.self.inside.nodes.items c.self.inside.notes.items c.self.inside.trail.items c.args.self.now c.self.view_is)

pub returns-clause-inside : goal.returns-clause-inside
returns-clause-inside c =
    subst (AreNotesBelow (length (nodes_of c.args.self.now)))
    (notes-view c.self.inside.nodes.items c.self.inside.notes.items c.self.inside.trail.items c.args.self.now c.self.view_is ∙ sym c.as_slice.ensures.value)
    (notes-present c.args.self.now (subst AreSound c.self.view_is c.self.invariant))
