use Rattle.elm_base.specs.declared.tree.Spot.{Spot}
use Rattle.elm_base.specs.declared.tree.TypeTree.{TypeTree}
use Rattle.tree_nesting.specs.Nesting.{type_nesting}
use Rattle.tree_nesting.proofs.NestingLaws.{of_fields, more, none}
use Rattle.tree_nesting.proofs.nesting.+types.Goals as goal

pub type_nests_within-returns-in-Fields : goal.type_nests_within-returns-in-Fields
type_nests_within-returns-in-Fields t c =
    rw (c.in-Fields.is, of_fields, ← c.as_slice-in-Fields.ensures) c.fields_nest_below.ensures

pub types_nest_below-loop-tree-preserved : goal.types_nest_below-loop-tree-preserved
types_nest_below-loop-tree-preserved t c =
    more type_nesting c.args.trees.now c.loop-tree.tree-index c.args.limit c.tree-item.result c.type_nests_below.result c.loop-tree-test.true c.tree-item.is
    c.type_nests_below.ensures.0 c.type_nests_below.ensures.1 c.if-not-type_nests_below.false c.loop-tree.invariant

pub types_nest_below-returns-then-not-type_nests_below : goal.types_nest_below-returns-then-not-type_nests_below
types_nest_below-returns-then-not-type_nests_below t c =
    none type_nesting c.args.trees.now c.loop-tree.tree-index c.args.limit c.tree-item.result c.type_nests_below.result c.loop-tree-test.true c.tree-item.is
    c.type_nests_below.ensures.0 c.type_nests_below.ensures.1 c.if-not-type_nests_below.true

pub fields_nest_below-loop-tree-preserved : goal.fields_nest_below-loop-tree-preserved
fields_nest_below-loop-tree-preserved t c =
    more (λ (field : Spot × TypeTree). type_nesting field.1) c.args.fields.now c.loop-tree.tree-index c.args.limit c.loop-tree-item.result c.type_nests_below.result
    c.loop-tree-test.true c.loop-tree-item.is c.type_nests_below.ensures.0 c.type_nests_below.ensures.1 c.if-not-type_nests_below.false c.loop-tree.invariant

pub fields_nest_below-returns-then-not-type_nests_below : goal.fields_nest_below-returns-then-not-type_nests_below
fields_nest_below-returns-then-not-type_nests_below t c =
    none (λ (field : Spot × TypeTree). type_nesting field.1) c.args.fields.now c.loop-tree.tree-index c.args.limit c.loop-tree-item.result c.type_nests_below.result
    c.loop-tree-test.true c.loop-tree-item.is c.type_nests_below.ensures.0 c.type_nests_below.ensures.1 c.if-not-type_nests_below.true
