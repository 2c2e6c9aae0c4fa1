use Rattle.std.proofs.Common.{◌≡◌, ◌++◌, List, sym, ◌∙◌, ap}
use Rattle.elm_base.specs.declared.tree.Spot.{Spot}
use Rattle.elm_base.specs.declared.tree.TypeTree.{TypeTree}
use Rattle.type_names.specs.Answers.{places_of}
use Rattle.alias_expansion.specs.Parts as parts
use Rattle.alias_expansion.specs.Expansion as spec
use Rattle.alias_expansion.proofs.FieldLaws.{plain_record}
use Rattle.alias_expansion.proofs.expansion.+plain.Goals as goal

pub plain-returns : goal.plain-returns
plain-returns t c =
    let aliases = c.args.aliases.now in
    let places = places_of c.args.scope.now in
    let slice = c.as_slice-in-Fields.result.now in
    c.given-in-Fields.ensures
    ∙ plain_record aliases places c.args.tree.now c.in-Fields.at c.in-Fields.before c.in_ok-before-in-Fields.before c.in-Fields.fields slice
    c.in_ok-whole-in-Fields.whole c.push_fields.new.out c.in-Fields.is c.as_slice-in-Fields.ensures c.in_ok-before-in-Fields.ensures
    c.in_ok-whole-in-Fields.ensures.whole
    (c.in_ok-whole-in-Fields.ensures.grown
    ∙ ap (λ (old : List (Spot × TypeTree)). old ++ parts.typed_among (spec.plain_fields aliases places slice)) c.new-found-in-Fields.ensures)
