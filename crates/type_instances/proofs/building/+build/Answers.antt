use Rattle.std.proofs.Common.{◌∙◌, IfOk, arith, ap, subst, sym}
use Rattle.typing_rules.specs.WrittenTypes.{Written}
use Rattle.type_sense.specs.WrittenOf.{written_of}
use Rattle.type_terms.proofs.Outcomes.{if_ok}
use Rattle.type_instances.specs.Building.{Builds}
use Rattle.type_instances.proofs.Sizes.{smaller-named, smaller-tuple, smaller-record, smaller-from, smaller-to, smaller-tree, smaller-field-item, serves-variable, serves-named, serves-tuple, serves-from, serves-to, serves-before, serves-fields, serves-item, serves-field-item, written-variable, written-named, written-arrow, written-unit, written-tuple, written-record}
use Rattle.type_instances.proofs.Standing.{table-kept}
use Rattle.type_instances.proofs.Terms.{builds-variable, builds-named, builds-arrow, builds-unit, builds-tuple, builds-record, tail-still, all-item, field-item}
use Rattle.type_instances.proofs.building.+build.Goals as goal

pub build-build_all-requires : goal.build-build_all-requires
build-build_all-requires t c = (
  let l = smaller-named c.args.tree.now _ _ _ _ c.in-Named.is c.as_slice.ensures in omega (arith, l, c.decreases),
  (
    c.requires.table,
    serves-named c.args.table.now c.args.tree.now _ _ _ _ c.in-Named.is c.as_slice.ensures c.requires.served,
  ),
)

pub build-build-requires : goal.build-build-requires
build-build-requires t c = (
  let l = smaller-from c.args.tree.now _ _ _ _ c.in-Arrow.is c.get.ensures in omega (arith, l, c.decreases),
  (
    c.requires.table,
    serves-from c.args.table.now c.args.tree.now _ _ _ _ c.in-Arrow.is c.get.ensures c.requires.served,
  ),
)

pub build-build-requires-in-Arrow : goal.build-build-requires-in-Arrow
build-build-requires-in-Arrow t c = (
  let l = smaller-to c.args.tree.now _ _ _ _ c.in-Arrow.is c.get-in-Arrow.ensures in omega (arith, l, c.decreases),
  (
    table-kept _ _ _ c.in_ok-from-in-Arrow.ensures.grows c.in_ok-from-in-Arrow.ensures.tails c.requires.table,
    serves-to c.args.table.now c.args.tree.now _ _ _ _ c.in-Arrow.is c.get-in-Arrow.ensures c.requires.served,
  ),
)

pub build-make-requires-in-Arrow-clause-parts : goal.build-make-requires-in-Arrow-clause-parts
build-make-requires-in-Arrow-clause-parts t c =
    (c.in_ok-to-in-Arrow.ensures.grows.types _ c.in_ok-from-in-Arrow.ensures.is_type, (c.in_ok-to-in-Arrow.ensures.is_type, tt))

pub build-build_all-requires-in-Tuple : goal.build-build_all-requires-in-Tuple
build-build_all-requires-in-Tuple t c = (
  let l = smaller-tuple c.args.tree.now _ _ _ c.in-Tuple.is c.as_slice-in-Tuple.ensures in omega (arith, l, c.decreases),
  (
    c.requires.table,
    serves-tuple c.args.table.now c.args.tree.now _ _ _ c.in-Tuple.is c.as_slice-in-Tuple.ensures c.requires.served,
  ),
)

pub build-build_fields-requires : goal.build-build_fields-requires
build-build_fields-requires t c = (
  let l = smaller-record c.args.tree.now _ _ _ _ c.in-Fields.is c.as_slice-in-Fields.ensures in omega (arith, l, c.decreases),
  (
    c.requires.table,
    serves-fields c.args.table.now c.args.tree.now _ _ _ _ c.in-Fields.is c.as_slice-in-Fields.ensures c.requires.served,
  ),
)

pub build-make_row-requires-clause-tail : goal.build-make_row-requires-clause-tail
build-make_row-requires-clause-tail t c = tail-still c.args.conditions.now c.build_fields.new.conditions c.args.table.now _ _ c.tail_before.ensures c.requires.table c.in_ok-fields-in-Fields.ensures.terms.tails

pub build-returns-in-Variable : goal.build-returns-in-Variable
build-returns-in-Variable t c =
    let known = serves-variable c.args.table.now c.args.tree.now _ _ c.in-Variable.is c.requires.served in
    let term = rw c.bytes.ensures at c.term_of.ensures in
    subst (λ (w : Written). Builds c.args.table.now c.args.conditions.now c.args.conditions.now w c.term_of.result) (sym (ap written_of c.in-Variable.is ∙ written-variable _ _))
    (subst (Builds c.args.table.now c.args.conditions.now c.args.conditions.now _) (sym term) (builds-variable c.args.conditions.now c.args.table.now _ c.requires.table known))

pub build-returns-in_ok-arguments-in-Named : goal.build-returns-in_ok-arguments-in-Named
build-returns-in_ok-arguments-in-Named t c =
    let parts = rw c.as_slice.ensures at c.in_ok-arguments-in-Named.ensures in
    subst (λ (w : Written). IfOk c.make.result (Builds c.args.table.now c.args.conditions.now c.make.new.self w)) (sym (ap written_of c.in-Named.is ∙ written-named _ _ _))
    (if_ok c.make.result _ _ _ (λ at a k. builds-named c.args.conditions.now c.build_all.new.conditions c.make.new.self c.args.table.now _ _ _ _ at c.in_ok-name-in-Named.ensures c.requires.table parts a k) c.make.ensures.adds c.make.ensures.tails)

pub build-returns-in_ok-to-in-Arrow : goal.build-returns-in_ok-to-in-Arrow
build-returns-in_ok-to-in-Arrow t c =
    let first = rw c.get.ensures at c.in_ok-from-in-Arrow.ensures in
    let second = rw c.get-in-Arrow.ensures at c.in_ok-to-in-Arrow.ensures in
    subst (λ (w : Written). IfOk c.make-in-Arrow.result (Builds c.args.table.now c.args.conditions.now c.make-in-Arrow.new.self w)) (sym (ap written_of c.in-Arrow.is ∙ written-arrow _ _ _))
    (if_ok c.make-in-Arrow.result _ _ _ (λ at a k. builds-arrow c.args.conditions.now c.build.new.conditions c.build-in-Arrow.new.conditions c.make-in-Arrow.new.self c.args.table.now _ _ _ _ at c.requires.table first second a k)
    c.make-in-Arrow.ensures.adds c.make-in-Arrow.ensures.tails)

pub build-returns-in-Unit : goal.build-returns-in-Unit
build-returns-in-Unit t c =
    subst (λ (w : Written). IfOk c.make-in-Unit.result (Builds c.args.table.now c.args.conditions.now c.make-in-Unit.new.self w)) (sym (ap written_of c.in-Unit.is ∙ written-unit _))
    (if_ok c.make-in-Unit.result _ _ _ (λ at a k. builds-unit c.args.conditions.now c.make-in-Unit.new.self c.args.table.now _ at c.requires.table c.new.ensures a k) c.make-in-Unit.ensures.adds c.make-in-Unit.ensures.tails)

pub build-returns-in_ok-parts-in-Tuple : goal.build-returns-in_ok-parts-in-Tuple
build-returns-in_ok-parts-in-Tuple t c =
    let parts = rw c.as_slice-in-Tuple.ensures at c.in_ok-parts-in-Tuple.ensures in
    subst (λ (w : Written). IfOk c.make-in-Tuple.result (Builds c.args.table.now c.args.conditions.now c.make-in-Tuple.new.self w)) (sym (ap written_of c.in-Tuple.is ∙ written-tuple _ _))
    (if_ok c.make-in-Tuple.result _ _ _ (λ at a k. builds-tuple c.args.conditions.now c.build_all-in-Tuple.new.conditions c.make-in-Tuple.new.self c.args.table.now _ _ at c.requires.table parts a k) c.make-in-Tuple.ensures.adds c.make-in-Tuple.ensures.tails)

pub build-returns-in_ok-fields-in-Fields : goal.build-returns-in_ok-fields-in-Fields
build-returns-in_ok-fields-in-Fields t c =
    let fields = rw c.as_slice-in-Fields.ensures at c.in_ok-fields-in-Fields.ensures in
    let before = serves-before c.args.table.now c.args.tree.now _ _ _ c.in-Fields.is c.requires.served in
    subst (λ (w : Written). IfOk c.make_row.result (Builds c.args.table.now c.args.conditions.now c.make_row.new.self w)) (sym (ap written_of c.in-Fields.is ∙ written-record _ _ _))
    (if_ok c.make_row.result _ _ _ (λ at a k. builds-record c.args.conditions.now c.build_fields.new.conditions c.make_row.new.self c.args.table.now c.in-Fields.before _ _ _ at c.tail_before.ensures before c.requires.table fields a k) c.make_row.ensures.adds c.make_row.ensures.tails)

pub build_all-build-requires : goal.build_all-build-requires
build_all-build-requires t c = (
  let l = smaller-tree c.args.trees.now _ _ c.loop-tree-test.true c.tree-item.is in omega (arith, l, c.decreases),
  (
    table-kept _ _ _ c.loop-tree.invariant.grows c.loop-tree.invariant.tails c.requires.table,
    serves-item c.args.table.now c.args.trees.now _ _ c.loop-tree-test.true c.tree-item.is c.requires.served,
  ),
)

pub build_all-loop-tree-preserved : goal.build_all-loop-tree-preserved
build_all-loop-tree-preserved t c =
    all-item _ _ _ _ _ _ _ _ _ _ c.loop-tree-test.true c.tree-item.is c.requires.table c.loop-tree.invariant c.in_ok-build.ensures c.in_ok-push.ensures.ok

pub build_fields-build-requires : goal.build_fields-build-requires
build_fields-build-requires t c = (
  let l = smaller-field-item c.args.fields.now _ _ c.loop-label-test.true c.loop-label-item.is in omega (arith, l, c.decreases),
  (
    table-kept _ _ _ c.loop-label.invariant.terms.grows c.loop-label.invariant.terms.tails c.requires.table,
    serves-field-item c.args.table.now c.args.fields.now _ _ c.loop-label-test.true c.loop-label-item.is c.requires.served,
  ),
)

pub build_fields-loop-label-preserved : goal.build_fields-loop-label-preserved
build_fields-loop-label-preserved t c =
    field-item _ _ _ _ _ _ _ _ _ _ _ c.loop-label-test.true c.loop-label-item.is c.requires.table c.loop-label.invariant c.in_ok-label.ensures c.in_ok-build.ensures c.in_ok-push.ensures.ok
