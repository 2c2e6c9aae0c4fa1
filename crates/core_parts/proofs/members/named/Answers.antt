use Rattle.std.proofs.Common.{◌≡◌, IfOk, map, subst}
use Rattle.core_trees.specs.PatternReading.{pattern_of}
use Rattle.core_trees.specs.Reading.{core_of, annotation_of}
use Rattle.plain_form.specs.PlainForm.{lambdas}
use Rattle.core_parts.specs.Members as spec
use Rattle.core_parts.proofs.members.named.Goals as goal

pub returns : goal.returns
returns c =
    subst (λ o. IfOk c.function_of.result (λ made. spec.member_of made ≡ spec.named_where o c.args.number (annotation_of c.args.annotation) (lambdas (map pattern_of c.args.parameters) (core_of c.args.body))))
    c.in_ok-function.ensures c.function_of.ensures
