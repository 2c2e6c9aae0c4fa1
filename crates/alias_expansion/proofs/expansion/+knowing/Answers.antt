use Rattle.std.proofs.Common.{◌≡◌, Bool, IfOk, List, sym, ◌∙◌, ap, subst}
use Rattle.elm_base.specs.declared.tree.Spot.{Spot}
use Rattle.elm_base.specs.declared.tree.TypeTree.{TypeTree}
use Rattle.type_names.specs.Answers.{places_of}
use Rattle.alias_expansion.specs.Expansion as spec
use Rattle.alias_expansion.proofs.FieldLaws.{knows_of_fields}
use Rattle.alias_expansion.proofs.expansion.+knowing.Goals as goal

pub knows-returns-in-Fields : goal.knows-returns-in-Fields
knows-returns-in-Fields t c =
    let aliases = c.args.aliases.now in
    let places = places_of c.args.scope.now in
    subst (λ (b : Bool). IfOk c.knows_fields.result (λ known. known ≡ b))
    (ap (λ (fs : List (Spot × TypeTree)). spec.knows_fields aliases places fs) c.as_slice-in-Fields.ensures
    ∙ sym (knows_of_fields aliases places c.in-Fields.at c.in-Fields.before c.in-Fields.fields) ∙ ap (spec.knows aliases places) (sym c.in-Fields.is))
    c.knows_fields.ensures
