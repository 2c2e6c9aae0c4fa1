use Rattle.std.proofs.Common.{ap, ◌∙◌}
use Rattle.elm_base.specs.declared.tree.Expr.TheVariants as e
use Rattle.typing_rules.specs.Core.{Local}
use Rattle.plain_form.specs.PlainForm.{use_of, plain}
use Rattle.typing_sound.specs.Settings.{world_of, types_in}
use Rattle.typing_sound.proofs.Sources.{same_trees, of_brackets, of_variable}
use Rattle.typing_sound.proofs.source_laws.names_have_the_types_of_their_things.Goals as goal

pub returns-clause-brackets : goal.returns-clause-brackets
returns-clause-brackets c = λ p scope n at x.
    same_trees p (types_in (world_of p) scope) (plain n (e.Brackets at x)) (plain n x) (of_brackets n at x)

pub returns-clause-local : goal.returns-clause-local
returns-clause-local c = λ p scope n at binder name h.
    same_trees p (types_in (world_of p) scope) (plain n (e.Variable at name)) (Local (n.number binder)) (of_variable n at name ∙ ap (use_of n at) h)

pub returns-clause-top : goal.returns-clause-top
returns-clause-top c = λ p scope n at name module_name top h.
    same_trees p (types_in (world_of p) scope) (plain n (e.Variable at name)) (n.top module_name top) (of_variable n at name ∙ ap (use_of n at) h)
