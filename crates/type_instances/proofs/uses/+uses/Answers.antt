use Rattle.std.proofs.Common.{◌≡◌, ◌++◌, List, OnOk, subst, sym}
use Rattle.type_terms.proofs.Outcomes.{on_ok}
use Rattle.type_instances.specs.declared.uses.Use.{Use}
use Rattle.type_instances.proofs.Sizes.{uses-of-named, uses-of-arrow, uses-of-tuple, uses-of-record, pushed-twice}
use Rattle.type_instances.proofs.uses.+uses.Goals as goal

pub push_uses-returns-in-Named : goal.push_uses-returns-in-Named
push_uses-returns-in-Named t c =
    let pushed = rw c.as_slice.ensures at c.push_uses_in.ensures in
    subst (λ (l : List Use). OnOk c.push_uses_in.result (c.push_uses_in.new.out ≡ c.args.out.now ++ l)) (sym (uses-of-named c.args.tree.now _ _ _ c.in-Named.is)) pushed

pub push_uses-returns-in_ok-push_uses-in-Arrow : goal.push_uses-returns-in_ok-push_uses-in-Arrow
push_uses-returns-in_ok-push_uses-in-Arrow t c =
    let first = rw c.get.ensures at c.in_ok-push_uses-in-Arrow.ensures in
    let second = rw c.get-in-Arrow.ensures at c.push_uses-in-Arrow.ensures in
    on_ok c.push_uses-in-Arrow.result _ _ (λ e. pushed-twice _ _ _ _ _ _ (uses-of-arrow c.args.tree.now _ _ _ c.in-Arrow.is) first e) second

pub push_uses-returns-in-Tuple : goal.push_uses-returns-in-Tuple
push_uses-returns-in-Tuple t c =
    let pushed = rw c.as_slice-in-Tuple.ensures at c.push_uses_in-in-Tuple.ensures in
    subst (λ (l : List Use). OnOk c.push_uses_in-in-Tuple.result (c.push_uses_in-in-Tuple.new.out ≡ c.args.out.now ++ l)) (sym (uses-of-tuple c.args.tree.now _ _ c.in-Tuple.is)) pushed

pub push_uses-returns-in_ok-push_before-in-Fields : goal.push_uses-returns-in_ok-push_before-in-Fields
push_uses-returns-in_ok-push_before-in-Fields t c =
    let fields = rw c.as_slice-in-Fields.ensures at c.push_uses_of.ensures in
    on_ok c.push_uses_of.result _ _ (λ e. pushed-twice _ _ _ _ _ _ (uses-of-record c.args.tree.now _ _ _ c.in-Fields.is) c.in_ok-push_before-in-Fields.ensures e) fields
