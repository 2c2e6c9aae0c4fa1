use Rattle.std.proofs.Common.{[], ◌∷◌}
use Rattle.elm_base.specs.declared.tree.Expr.TheVariants as e
use Rattle.plain_form.specs.PlainForm.{plain}
use Rattle.typing_sound.specs.Settings.{world_of, types_in}
use Rattle.typing_sound.proofs.Sources.{same_trees, lambda_first, call_first, definition_of_lambda}
use Rattle.typing_sound.proofs.source_laws.functions_have_the_types_of_nested_lambdas.Goals as goal

pub returns-clause-lambda : goal.returns-clause-lambda
returns-clause-lambda c = λ p scope n at first more x.
    same_trees p (types_in (world_of p) scope) (plain n (e.Lambda at (first ∷ more) x))
    (plain n (e.Lambda at (first ∷ []) (e.Lambda at more x))) (lambda_first n at first more x)

pub returns-clause-call : goal.returns-clause-call
returns-clause-call c = λ p scope n at f first more.
    same_trees p (types_in (world_of p) scope) (plain n (e.Call at f (first ∷ more)))
    (plain n (e.Call at (e.Call at f (first ∷ [])) more)) (call_first n at f first more)

pub returns-clause-definition : goal.returns-clause-definition
returns-clause-definition c = λ n at name ps x. definition_of_lambda n at name ps x
