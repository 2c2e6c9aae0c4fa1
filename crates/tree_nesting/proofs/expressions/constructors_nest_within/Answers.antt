use Rattle.std.proofs.Common.{map, ap, ◌≤◌, subst, sym, List, ℕ, ◌≡◌}
use Rattle.elm_base.specs.declared.tree.TypeTree.{TypeTree}
use Rattle.elm_base.specs.declared.tree.Constructor.{Constructor}
use Rattle.tree_nesting.specs.Nesting.{most, type_nesting}
use Rattle.tree_nesting.proofs.MostLaws.{more_within, none_within}
use Rattle.tree_nesting.proofs.expressions.constructors_nest_within.Goals as goal

-- of a constructor, the most of its arguments
abbrev made_nesting : Constructor → ℕ
made_nesting made = most (map type_nesting made.arguments)

pub loop-made-preserved : goal.loop-made-preserved
loop-made-preserved c =
    let is : most (map type_nesting c.as_slice.result.now) ≡ made_nesting c.made-item.result = ap (λ (xs : List TypeTree). most (map type_nesting xs)) c.as_slice.ensures in
    more_within made_nesting c.args.constructors.now c.loop-made.made-index c.args.limit c.made-item.result c.types_nest_within.result c.loop-made-test.true c.made-item.is
    (λ h. subst (λ (n : ℕ). n ≤ c.args.limit) is (c.types_nest_within.ensures.0 h)) (λ h. c.types_nest_within.ensures.1 (subst (λ (n : ℕ). n ≤ c.args.limit) (sym is) h))
    c.if-not-types_nest_within.false c.loop-made.invariant

pub returns-then-not-types_nest_within : goal.returns-then-not-types_nest_within
returns-then-not-types_nest_within c =
    let is : most (map type_nesting c.as_slice.result.now) ≡ made_nesting c.made-item.result = ap (λ (xs : List TypeTree). most (map type_nesting xs)) c.as_slice.ensures in
    none_within made_nesting c.args.constructors.now c.loop-made.made-index c.args.limit c.made-item.result c.types_nest_within.result c.loop-made-test.true c.made-item.is
    (λ h. subst (λ (n : ℕ). n ≤ c.args.limit) is (c.types_nest_within.ensures.0 h)) (λ h. c.types_nest_within.ensures.1 (subst (λ (n : ℕ). n ≤ c.args.limit) (sym is) h))
    c.if-not-types_nest_within.true
