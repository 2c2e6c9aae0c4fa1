use Rattle.tree_nesting.specs.Nesting.{pattern_nesting}
use Rattle.tree_nesting.proofs.NestingLaws.{more, none}
use Rattle.tree_nesting.proofs.nesting.+patterns.Goals as goal

pub patterns_nest_below-loop-tree-preserved : goal.patterns_nest_below-loop-tree-preserved
patterns_nest_below-loop-tree-preserved t c =
    more pattern_nesting c.args.trees.now c.loop-tree.tree-index c.args.limit c.tree-item.result c.pattern_nests_below.result c.loop-tree-test.true c.tree-item.is
    c.pattern_nests_below.ensures.0 c.pattern_nests_below.ensures.1 c.if-not-pattern_nests_below.false c.loop-tree.invariant

pub patterns_nest_below-returns-then-not-pattern_nests_below : goal.patterns_nest_below-returns-then-not-pattern_nests_below
patterns_nest_below-returns-then-not-pattern_nests_below t c =
    none pattern_nesting c.args.trees.now c.loop-tree.tree-index c.args.limit c.tree-item.result c.pattern_nests_below.result c.loop-tree-test.true c.tree-item.is
    c.pattern_nests_below.ensures.0 c.pattern_nests_below.ensures.1 c.if-not-pattern_nests_below.true
