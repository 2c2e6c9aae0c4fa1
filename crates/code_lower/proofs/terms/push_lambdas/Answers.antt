use Rattle.elm_meaning.specs.Values.{Tree}
use Rattle.code_lower.specs.Laying.{Wraps, pattern_for, lambdas_for}
use Rattle.code_lower.proofs.Closing.{on_ok, wraps_twice}
use Rattle.code_lower.proofs.terms.push_lambdas.Goals as goal

pub returns : goal.returns
returns c =
    on_ok c.push_abstraction.result _ (λ at. Wraps c.args.out.now c.push_abstraction.new.out c.args.body at (λ tree. Tree.Lambda (pattern_for c.args.first.now) (lambdas_for c.args.more.now tree)))
    (λ at wraps. wraps_twice _ _ _ _ _ _ (lambdas_for c.args.more.now) (Tree.Lambda (pattern_for c.args.first.now)) c.in_ok-inner.ensures wraps) c.push_abstraction.ensures
