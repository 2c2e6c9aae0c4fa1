use Rattle.std.proofs.Common.{◌≡◌, ◌++◌, IfOk, List, Option, ◌∙◌, ap, subst}
use Rattle.elm_base.specs.declared.tree.Spot.{Spot}
use Rattle.elm_base.specs.declared.tree.TypeTree.{TypeTree}
use Rattle.alias_expansion.specs.Parts as parts
use Rattle.alias_expansion.specs.Instances as spec
use Rattle.alias_expansion.proofs.FieldLaws.{instance_record}
use Rattle.alias_expansion.proofs.instances.+instances.Goals as goal

pub instance_of-returns-in_ok-whole-in-Fields : goal.instance_of-returns-in_ok-whole-in-Fields
instance_of-returns-in_ok-whole-in-Fields t c =
    let parameters = c.args.arguments.now.parameters.now in
    let arguments = c.args.arguments.now.given.now in
    let slice = c.as_slice-in-Fields.result.now in
    subst (λ (tree : Option TypeTree). IfOk c.over_argument.result (λ found. found ≡ tree))
    (instance_record parameters arguments c.args.tree.now c.in-Fields.at c.in-Fields.before c.in-Fields.fields slice c.in_ok-whole-in-Fields.whole
    c.push_fields.new.out c.in-Fields.is c.as_slice-in-Fields.ensures c.in_ok-whole-in-Fields.ensures.whole
    (c.in_ok-whole-in-Fields.ensures.grown
    ∙ ap (λ (old : List (Spot × TypeTree)). old ++ parts.typed_among (spec.instances_of_fields parameters arguments slice)) c.new-found-in-Fields.ensures))
    c.over_argument.ensures
