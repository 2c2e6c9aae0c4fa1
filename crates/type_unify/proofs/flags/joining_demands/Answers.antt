use Rattle.elm_typing.specs.declared.flag.Flag.TheVariants.{Appendable}
use Rattle.std.proofs.Common.{◌∙◌, refl, ap, [], ◌∷◌, ◌++◌}
use Rattle.type_unify.proofs.Asking.{joins_variable}
use Rattle.type_unify.proofs.flags.joining_demands.Goals as goal

pub returns-then-is_variable-clause-found : goal.returns-then-is_variable-clause-found
returns-then-is_variable-clause-found c =
    joins_variable _ _ _ _ _ c.requires.is_type c.find-end.ensures.leads c.find-end.ensures.inside c.shape_at-shape.ensures (c.if-is_variable.ensures.0 refl)
    (c.in_ok-push.ensures.ok ∙ ap (λ ds. ds ++ record { at = c.find-end.result; flag = Appendable } ∷ []) c.new-found.ensures)
