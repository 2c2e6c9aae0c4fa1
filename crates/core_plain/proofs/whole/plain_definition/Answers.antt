use Rattle.std.proofs.Common.{◌≡◌, IfOk, subst}
use Rattle.core_trees.specs.Reading.{core_of}
use Rattle.core_plain.proofs.Closing.{whole}
use Rattle.core_plain.proofs.whole.plain_definition.Goals as goal

pub returns : goal.returns
returns c =
    subst (λ e. IfOk c.lambdas.result (λ made. core_of made ≡ e)) (whole _ c.args.parameters.now c.args.body.now _ _ c.in_ok-binders.ensures c.in_ok-patterns.ensures c.in_ok-tree.ensures) c.lambdas.ensures
