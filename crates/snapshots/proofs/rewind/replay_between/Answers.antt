use Rattle.std.proofs.Common.{◌≡◌, ◌<◌, ◌∷◌, [], ◌++◌, length, map, refl, sym, ap, ◌∙◌, arith, slice_get, Some}
use Rattle.std.proofs.lemmas.Option.{slice_get_read}
use Rattle.snapshots.specs.Past.{StandsFor}
use Rattle.snapshots.proofs.Prefixes.{take_next, keeps_step, keeps_step_err, keeps_then}
use Rattle.snapshots.proofs.rewind.replay_between.Goals as goal

pub returns-in_err-step-clause-marks : goal.returns-in_err-step-clause-marks
returns-in_err-step-clause-marks g c =
    let r = g.R.Replay in
    let all = map r.content c.args.events.now in
    let before = c.loop-at.replay in
    let after = c.step.new.self in
    let event = c.index-events-at.result in
    let inside : c.loop-at.at < length c.args.events.now = omega arith in
    let here : slice_get c.args.events.now c.loop-at.at ≡ Some event = slice_get_read c.args.events.now (length c.args.events.now) c.loop-at.at event refl inside c.index-events-at.is in
    keeps_then all (StandsFor (r.good c.args.replay.now) (r.list_of c.args.replay.now)) (StandsFor (r.good before) (r.list_of before)) (StandsFor (r.good after) (r.list_of after)) c.loop-at.invariant.marks
    (keeps_step_err all (r.good before) (r.good after) (r.list_of before) (r.list_of after) c.loop-at.at (r.list before) (r.content event)
    c.loop-at.invariant.shows (take_next r.content c.args.events.now c.loop-at.at event here) c.in_err-step.ensures.marks_err)

pub loop-at-preserved : goal.loop-at-preserved
loop-at-preserved g c =
    let r = g.R.Replay in
    let all = map r.content c.args.events.now in
    let before = c.loop-at.replay in
    let after = c.step.new.self in
    let event = c.index-events-at.result in
    let inside : c.loop-at.at < length c.args.events.now = omega arith in
    let here : slice_get c.args.events.now c.loop-at.at ≡ Some event = slice_get_read c.args.events.now (length c.args.events.now) c.loop-at.at event refl inside c.index-events-at.is in
    let next = take_next r.content c.args.events.now c.loop-at.at event here in
    record {
      shows = c.in_ok-step.ensures.list ∙ ap (λ es. es ++ r.content event ∷ []) c.loop-at.invariant.shows ∙ sym next;
      made = c.in_ok-step.ensures.made ∙ c.loop-at.invariant.made;
      marks = keeps_then all (StandsFor (r.good c.args.replay.now) (r.list_of c.args.replay.now)) (StandsFor (r.good before) (r.list_of before)) (StandsFor (r.good after) (r.list_of after)) c.loop-at.invariant.marks
          (keeps_step all (r.good before) (r.good after) (r.list_of before) (r.list_of after) c.loop-at.at (r.list before) (r.content event)
          c.loop-at.invariant.shows next c.in_ok-step.ensures.marks);
      counted = omega (arith, c.in_ok-step.ensures.counted_most, c.loop-at.invariant.counted);
      taken = omega (arith, c.in_ok-step.ensures.taken_most, c.loop-at.invariant.taken);
    }
