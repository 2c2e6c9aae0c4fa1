use Rattle.type_terms.specs.Terms.{nodes_of, notes_of}
use Rattle.type_sorts.proofs.Meaning.{reached-refuses, separate-meets}
use Rattle.type_sorts.proofs.notes.sorts.Goals as goal

pub returns-then-branch-clause-refused : goal.returns-then-branch-clause-refused
returns-then-branch-clause-refused c = λ _.
    reached-refuses (nodes_of c.args.store.now) (notes_of c.args.store.now) c.in_ok-edges.edges c.in_ok-edges.ensures (c.in_ok-reaches_simple.ensures.reached c.if-branch.true)

pub returns-clause-met : goal.returns-clause-met
returns-clause-met c =
    let apart = c.in_ok-reaches_simple.ensures.separate c.if-branch.false in
    separate-meets (nodes_of c.args.store.now) _ (notes_of c.args.store.now) c.in_ok-edges.edges apart.0 c.rests.ensures.sound c.in_ok-edges.ensures apart.1 c.requires.solvable
