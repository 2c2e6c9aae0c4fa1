-- What the folds over types give for a record.
use Rattle.std.proofs.Common.{◌≡◌, ℕ, Bool, Option, Some, None, List, [], ◌∷◌, ◌++◌, refl, sym, ◌∙◌, ap}
use Rattle.elm_base.specs.declared.token.At.{At}
use Rattle.elm_base.specs.declared.tree.Spot.{Spot}
use Rattle.elm_base.specs.declared.tree.TypeTree.{TypeTree}
use Rattle.elm_base.specs.declared.tree.TypeTree.TheOpen as type
use Rattle.elm_base.specs.declared.tree.TypeTree.TheFolds.{fold-roll-TypeTree}
use Rattle.elm_base.specs.declared.tree.TypeTree.TheVariants as t
use Rattle.type_names.specs.Answers.{Places}
use Rattle.alias_expansion.specs.declared.plain_alias.PlainAlias.{PlainAlias}
use Rattle.alias_expansion.specs.Parts.{given, closed, all_have_types, typed_among}
use Rattle.alias_expansion.specs.Instances.{over_fields, instance_step, instance_of, instances_of_fields}
use Rattle.alias_expansion.specs.Expansion.{plain_step, plain, plain_fields, knows_step, knows, knows_fields}

module _ (aliases : List PlainAlias) (places : Places) where
  plain_of_fields : (at : At) (before : Option Spot) (fields : List (Spot × TypeTree)) →
      plain aliases places (t.Fields at before fields) ≡ closed at before (plain_fields aliases places fields)
  plain_of_fields at before fields =
      ap (plain aliases places) (sym (t.rolls-Fields at before fields))
      ∙ fold-roll-TypeTree (Option TypeTree) (plain_step aliases places) (type.Fields at before fields)

  pub knows_of_fields : (at : At) (before : Option Spot) (fields : List (Spot × TypeTree)) →
      knows aliases places (t.Fields at before fields) ≡ knows_fields aliases places fields
  knows_of_fields at before fields =
      ap (knows aliases places) (sym (t.rolls-Fields at before fields))
      ∙ fold-roll-TypeTree Bool (knows_step aliases places) (type.Fields at before fields)

  pub plain_record : (tree : TypeTree) (at : At) (before copied : Option Spot) (fields slice : List (Spot × TypeTree)) (whole : Bool)
      (found : List (Spot × TypeTree)) → tree ≡ t.Fields at before fields → slice ≡ fields → copied ≡ before →
      whole ≡ all_have_types (plain_fields aliases places slice) → found ≡ typed_among (plain_fields aliases places slice) →
      given whole (t.Fields at copied found) ≡ plain aliases places tree
  plain_record tree at before copied fields slice whole found is same copy all those =
      ap (λ (w : Bool). given w (t.Fields at copied found)) (all ∙ ap (λ (fs : List (Spot × TypeTree)). all_have_types (plain_fields aliases places fs)) same)
      ∙ ap (λ (fs : List (Spot × TypeTree)). given (all_have_types (plain_fields aliases places fields)) (t.Fields at copied fs))
      (those ∙ ap (λ (fs : List (Spot × TypeTree)). typed_among (plain_fields aliases places fs)) same)
      ∙ ap (λ (b : Option Spot). closed at b (plain_fields aliases places fields)) copy
      ∙ sym (plain_of_fields at before fields) ∙ ap (plain aliases places) (sym is)

module _ (parameters : List (List ℕ)) (arguments : List (Option TypeTree)) where
  instance_of_fields : (at : At) (before : Option Spot) (fields : List (Spot × TypeTree)) →
      instance_of parameters arguments (t.Fields at before fields)
      ≡ over_fields parameters arguments at before (all_have_types (instances_of_fields parameters arguments fields))
      (typed_among (instances_of_fields parameters arguments fields))
  instance_of_fields at before fields =
      ap (instance_of parameters arguments) (sym (t.rolls-Fields at before fields))
      ∙ fold-roll-TypeTree (Option TypeTree) (instance_step parameters arguments) (type.Fields at before fields)

  pub instance_record : (tree : TypeTree) (at : At) (before : Option Spot) (fields slice : List (Spot × TypeTree)) (whole : Bool)
      (found : List (Spot × TypeTree)) → tree ≡ t.Fields at before fields → slice ≡ fields →
      whole ≡ all_have_types (instances_of_fields parameters arguments slice) →
      found ≡ typed_among (instances_of_fields parameters arguments slice) →
      over_fields parameters arguments at before whole found ≡ instance_of parameters arguments tree
  instance_record tree at before fields slice whole found is same all those =
      ap (λ (w : Bool). over_fields parameters arguments at before w found)
      (all ∙ ap (λ (fs : List (Spot × TypeTree)). all_have_types (instances_of_fields parameters arguments fs)) same)
      ∙ ap (λ (fs : List (Spot × TypeTree)). over_fields parameters arguments at before (all_have_types (instances_of_fields parameters arguments fields)) fs)
      (those ∙ ap (λ (fs : List (Spot × TypeTree)). typed_among (instances_of_fields parameters arguments fs)) same)
      ∙ sym (instance_of_fields at before fields) ∙ ap (instance_of parameters arguments) (sym is)
