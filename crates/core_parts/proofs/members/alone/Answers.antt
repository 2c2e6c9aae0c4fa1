use Rattle.std.proofs.Common.{◌≡◌, ◌∙◌, IfOk, option_map, sym, ap, subst}
use Rattle.core_trees.specs.Reading.{core_of, annotation_of}
use Rattle.core_parts.specs.Members as spec
use Rattle.core_parts.proofs.members.alone.Goals as goal

pub returns-in-Some : goal.returns-in-Some
returns-in-Some c =
    subst (λ o. IfOk c.function_of.result (λ made. spec.member_of made ≡ spec.named_where o c.args.number (annotation_of c.args.annotation) (core_of c.args.value)))
    (sym (ap (option_map spec.abstraction_of) c.in-Some.is) ∙ c.apart.ensures) c.function_of.ensures
