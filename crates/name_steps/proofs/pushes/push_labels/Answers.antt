use Rattle.std.proofs.Common.{◌∙◌, List, [], ◌∷◌, ◌++◌, ap}
use Rattle.elm_base.specs.declared.tree.Set.{Set}
use Rattle.elm_base.specs.declared.tree.Spot.{Spot}
use Rattle.name_steps.specs.declared.step.Step.TheVariants as step
use Rattle.name_steps.specs.PatternNames.{spot_of}
use Rattle.name_steps.proofs.Rows.{labels_of, all_pushed}
use Rattle.name_steps.proofs.pushes.push_labels.Goals as goal

pub returns : goal.returns
returns c =
    c.in_ok-push.ensures.ok
    ∙ ap (λ (spots : List Spot). c.args.out.now ++ step.Labels spots ∷ [])
    (all_pushed (λ (field : Set). spot_of field.at field.label) c.args.fields.now c.loop-field.field-index c.loop-field.spots c.loop-field-test.false
    c.loop-field.invariant ∙ labels_of c.args.fields.now)
