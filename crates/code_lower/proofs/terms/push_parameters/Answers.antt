use Rattle.std.proofs.Common.{◌≡◌, ◌-◌, ℕ, suc, drop, subst, arith}
use Rattle.code_lower.specs.Laying.{Wraps, lambdas_for}
use Rattle.code_lower.proofs.Closing.{parameter_turn}
use Rattle.code_lower.proofs.terms.push_parameters.Goals as goal

pub loop-count-preserved : goal.loop-count-preserved
loop-count-preserved c =
    let all = c.loop-count.invariant.0 in
    let some = c.loop-count-test.true in
    let same : c.loop-count.count ≡ suc (c.loop-count.count - 1) = omega (arith, some) in (
      omega (arith, all),
      parameter_turn _ _ _ _ _ _ (c.loop-count.count - 1) c.args.parameters.now c.index-parameters-count.result (omega (arith, all, some)) c.index-parameters-count.is
          (subst (λ (n : ℕ). Wraps c.args.out.now c.loop-count.out c.args.body c.loop-count.at (lambdas_for (drop n c.args.parameters.now))) same c.loop-count.invariant.1) c.in_ok-at.ensures,
    )
