use Rattle.elm_meaning.specs.Values.{Tree}
use Rattle.code_lower.specs.Laying.{Wraps, pattern_for}
use Rattle.code_lower.proofs.Closing.{on_ok, abstracted}
use Rattle.code_lower.proofs.terms.push_abstraction.Goals as goal

pub returns : goal.returns
returns c =
    on_ok c.push_term.result _ (λ at. Wraps c.args.out.now c.push_term.new.out c.args.body at (Tree.Lambda (pattern_for c.args.pattern.now)))
    (λ at pushed. abstracted _ _ c.args.pattern.now c.in_ok-pattern.pattern c.args.body at c.in_ok-pattern.ensures pushed) c.push_term.ensures
