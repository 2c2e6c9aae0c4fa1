use Rattle.tree_nesting.specs.Nesting.{pattern_nesting}
use Rattle.tree_nesting.proofs.MostLaws.{more_within, none_within}
use Rattle.tree_nesting.proofs.expressions.patterns_nest_within.Goals as goal

pub loop-tree-preserved : goal.loop-tree-preserved
loop-tree-preserved c =
    more_within pattern_nesting c.args.trees.now c.loop-tree.tree-index c.args.limit c.tree-item.result c.pattern_nests_within.result c.loop-tree-test.true c.tree-item.is
    c.pattern_nests_within.ensures.0 c.pattern_nests_within.ensures.1 c.if-not-pattern_nests_within.false c.loop-tree.invariant

pub returns-then-not-pattern_nests_within : goal.returns-then-not-pattern_nests_within
returns-then-not-pattern_nests_within c =
    none_within pattern_nesting c.args.trees.now c.loop-tree.tree-index c.args.limit c.tree-item.result c.pattern_nests_within.result c.loop-tree-test.true c.tree-item.is
    c.pattern_nests_within.ensures.0 c.pattern_nests_within.ensures.1 c.if-not-pattern_nests_within.true
