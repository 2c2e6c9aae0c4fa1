use Rattle.tree_nesting.specs.Nesting.{type_nesting}
use Rattle.tree_nesting.proofs.MostLaws.{more_within, none_within}
use Rattle.tree_nesting.proofs.expressions.types_nest_within.Goals as goal

pub loop-tree-preserved : goal.loop-tree-preserved
loop-tree-preserved c =
    more_within type_nesting c.args.trees.now c.loop-tree.tree-index c.args.limit c.tree-item.result c.type_nests_within.result c.loop-tree-test.true c.tree-item.is
    c.type_nests_within.ensures.0 c.type_nests_within.ensures.1 c.if-not-type_nests_within.false c.loop-tree.invariant

pub returns-then-not-type_nests_within : goal.returns-then-not-type_nests_within
returns-then-not-type_nests_within c =
    none_within type_nesting c.args.trees.now c.loop-tree.tree-index c.args.limit c.tree-item.result c.type_nests_within.result c.loop-tree-test.true c.tree-item.is
    c.type_nests_within.ensures.0 c.type_nests_within.ensures.1 c.if-not-type_nests_within.true
