use Rattle.std.proofs.Common.{rules, ◌≡◌, ◌<◌, ◌++◌, length, [], ◌∷◌, sym, ◌∙◌, ap, subst}
use Rattle.std.proofs.lemmas.Option.{get_or_from_slice_get}
use Rattle.std.proofs.Math.ListN.{drop_of_length-le}
use Rattle.type_unify.specs.Matching.{Fields}
use Rattle.type_unify.proofs.Match.{Waits, step_both, step_left, waits_none, waits_all}
use Rattle.type_unify.proofs.fields.match_fields.Goals as goal
use Rattle.type_unify.proofs.fields.match_fields.Goals.{in-Some+in_ok-push-in-Some, in-None+in_ok-copy-in-None+in_ok-push-in-None}

pub loop-field-init : goal.loop-field-init
loop-field-init c =
    subst (λ (fs : Fields). Waits c.args.waiting.now c.args.waiting.now c.args.left.now c.args.right.now fs c.args.left.now c.args.right.now)
    (sym c.new-extra.ensures) (waits_none _ _ _ (let e : c.args.waiting.now ≡ c.args.waiting.now ++ [] = search rules in e))

pub loop-field-preserved : goal.loop-field-preserved
loop-field-preserved c =
    let lt : c.loop-field.field-index < length c.args.left.now = c.loop-field-test.true in
    elim c.match-place_of.branch [
      | in-Some+in_ok-push-in-Some w ↦ rw (w.right-is, w.extra-is)
          (step_both _ c.loop-field.waiting _ _ _ _ _ _ _ w.in-Some.at c.field-item.result w.remove-other.result lt c.field-item.is c.loop-field.invariant
          (rw (c.bytes.ensures, c.as_slice.ensures) at w.in-Some.ensures)
          (sym (get_or_from_slice_get c.loop-field.right w.in-Some.at w.remove-other.result w.remove-other.result w.remove-other.ensures.item)) w.remove-other.ensures.rest
          (w.waiting-is ∙ w.in_ok-push-in-Some.ensures.ok))
      | in-None+in_ok-copy-in-None+in_ok-push-in-None w ↦ rw (w.right-is, w.waiting-is)
          (step_left _ _ _ _ _ _ _ _ c.field-item.result lt c.field-item.is c.loop-field.invariant
          (rw (c.bytes.ensures, c.as_slice.ensures) at w.in-None.ensures)
          (w.extra-is ∙ w.in_ok-push-in-None.ensures.ok ∙ ap (λ name. c.loop-field.extra ++ (name, c.field-item.result.1) ∷ []) w.in_ok-copy-in-None.ensures))
    ]

pub returns : goal.returns
returns c = waits_all _ _ _ _ _ _ _ (drop_of_length-le _ c.loop-field-test.false) c.loop-field.invariant
