use Rattle.std.proofs.Common.{◌≡◌, ◌+◌, ◌*◌, ◌<◌, List, ◌∷◌, [], ◌++◌, length, take, map, sym, ap, subst, ◌∙◌, arith}
use Rattle.std.proofs.lemmas.List.{take_all, map-append, length-map}
use Rattle.std.proofs.lemmas.Grind.{common_steps}
use Rattle.snapshots.specs.Kept.{Recorded, AreKept, IsEnd}
use Rattle.snapshots.specs.Past.{StandsFor, KeepsPrefixes}
use Rattle.snapshots.specs.Prefixes.{OneIsPrefix}
use Rattle.snapshots.proofs.Prefixes.{keeps_step, keeps_end_err}
use Rattle.snapshots.proofs.Marks.{kept_grown, kept_stays, fit_stays, fit_grown, end_grown, end_same, last_read, take_first, take_whole}
use Rattle.snapshots.proofs.history.History.push.Goals as goal

pub invariant_of-self-in-Ok : goal.invariant_of-self-in-Ok
invariant_of-self-in-Ok g c =
    let r = g.R.Replay in
    let events = c.self.inside.events.items in
    let all = map r.content events in
    let every = c.self.inside.every in
    let kept = c.keep_mark.new.kept.items in
    let event = c.args.event in
    let before = c.keep_mark.new.replay in
    let after = c.step.new.self in
    let at_end : c.self.inside.cursor ≡ length events = subst (λ (h : Recorded g.row.R.Denot g.row.R-Event.Denot). h.cursor ≡ length h.events) (sym c.self.view_is) c.requires.at_end in
    let here : c.len-at.result ≡ length events = omega (arith, c.len-at.ensures) in
    let long : length all ≡ length events = length-map events r.content in
    let shown : r.list before ≡ all = c.in_ok-keep_mark.ensures.list ∙ c.self.invariant.shows ∙ take_all c.self.inside.cursor all (omega (arith, at_end, long)) in
    let pushed : c.push.new.self.items ≡ events ++ event ∷ [] = c.in_ok-push.ensures.items in
    let read : c.index.result.now ≡ event = c.index.ensures ∙ rw (pushed, here) (last_read events event c.index.result.now) in
    let more : map r.content (events ++ event ∷ []) ≡ all ++ r.content event ∷ [] = map-append r.content events (event ∷ []) in
    let longer : length (all ++ r.content event ∷ []) ≡ length all + 1 = grind (arith, common_steps) in
    let are : AreKept (StandsFor (r.good before) (r.list_of before)) r.older all every kept =
    subst (λ (es : List g.row.R-Event.Denot). AreKept (StandsFor (r.good before) (r.list_of before)) r.older (map r.content es) every kept) c.as_slice.ensures.value c.in_ok-keep_mark.ensures.kept in
    let room_events : length events < length kept * every =
    subst (λ (es : List g.row.R-Event.Denot). length es < length kept * every) c.as_slice.ensures.value c.in_ok-keep_mark.ensures.room in
    let room : length all < length kept * every = rw long room_events in
    let keeps : KeepsPrefixes (all ++ r.content event ∷ []) (StandsFor (r.good before) (r.list_of before)) (StandsFor (r.good after) (r.list_of after)) =
    keeps_step (all ++ r.content event ∷ []) (r.good before) (r.good after) (r.list_of before) (r.list_of after) (length all) (r.list before) (r.content event)
    (shown ∙ sym (take_first all (r.content event))) (take_whole all (r.content event))
    (subst (λ (x : g.row.R-Event.Denot). (m : g.row.R-Mark.Denot) → r.good before m → OneIsPrefix (r.list_of before m) (r.list before ++ r.content x ∷ []) →
    StandsFor (r.good after) (r.list_of after) m (r.list_of before m)) read c.in-Ok.ensures.marks) in
    rw (pushed, here) record {
      spaced = c.self.invariant.spaced;
      within = rw more (omega (arith, longer, long));
      fit = fit_stays r.content r.fits (r.made c.self.inside.replay) (r.made after) (events ++ event ∷ []) (c.in-Ok.ensures.made ∙ c.in_ok-keep_mark.ensures.made)
          (fit_grown r.content (r.fits (r.made c.self.inside.replay)) events event c.self.invariant.fit
          (subst (λ (h : Recorded g.row.R.Denot g.row.R-Event.Denot). r.fits (r.made h.replay) (r.content event)) (sym c.self.view_is) c.requires.fits));
      shows = c.in-Ok.ensures.list ∙ ap (λ es. es ++ r.content c.index.result.now ∷ []) shown ∙ ap (λ x. all ++ r.content x ∷ []) read
          ∙ sym (take_all (length events + 1) (all ++ r.content event ∷ []) (omega (arith, longer, long))) ∙ ap (take (length events + 1)) (sym more);
      marked = subst (λ (es : List g.row.R-Content.Denot). AreKept (StandsFor (r.good after) (r.list_of after)) r.older es every kept) (sym more)
          (kept_grown (StandsFor (r.good before) (r.list_of before)) (StandsFor (r.good after) (r.list_of after)) r.older all every kept (r.content event) are room keeps);
      ends = subst (λ (es : List g.row.R-Content.Denot). IsEnd (StandsFor (r.good after) (r.list_of after)) r.older es (length events + 1) kept c.self.inside.end) (sym more)
          (subst (λ (n : _). IsEnd (StandsFor (r.good after) (r.list_of after)) r.older (all ++ r.content event ∷ []) (n + 1) kept c.self.inside.end) long
          (end_grown (StandsFor (r.good c.self.inside.replay) (r.list_of c.self.inside.replay)) (StandsFor (r.good after) (r.list_of after)) r.older all c.self.inside.cursor c.self.inside.kept.items kept c.self.inside.end (r.content event)
          c.self.invariant.ends (at_end ∙ sym long)));
    }

pub invariant_of-self-in-Err : goal.invariant_of-self-in-Err
invariant_of-self-in-Err g c =
    let r = g.R.Replay in
    let events = c.self.inside.events.items in
    let all = map r.content events in
    let every = c.self.inside.every in
    let kept = c.keep_mark.new.kept.items in
    let event = c.args.event in
    let before = c.keep_mark.new.replay in
    let after = c.step.new.self in
    let at_end : c.self.inside.cursor ≡ length events = subst (λ (h : Recorded g.row.R.Denot g.row.R-Event.Denot). h.cursor ≡ length h.events) (sym c.self.view_is) c.requires.at_end in
    let here : c.len-at.result ≡ length events = omega (arith, c.len-at.ensures) in
    let long : length all ≡ length events = length-map events r.content in
    let shown : r.list before ≡ all = c.in_ok-keep_mark.ensures.list ∙ c.self.invariant.shows ∙ take_all c.self.inside.cursor all (omega (arith, at_end, long)) in
    let pushed : c.push.new.self.items ≡ events ++ event ∷ [] = c.in_ok-push.ensures.items in
    let back : c.truncate.new.self.items ≡ events = c.truncate.ensures.items ∙ rw (pushed, here) (take_first events event) in
    let are : AreKept (StandsFor (r.good before) (r.list_of before)) r.older all every kept =
    subst (λ (es : List g.row.R-Event.Denot). AreKept (StandsFor (r.good before) (r.list_of before)) r.older (map r.content es) every kept) c.as_slice.ensures.value c.in_ok-keep_mark.ensures.kept in
    rw back record {
      spaced = c.self.invariant.spaced;
      within = c.self.invariant.within;
      fit = fit_stays r.content r.fits (r.made c.self.inside.replay) (r.made after) events (c.in-Err.ensures.made ∙ c.in_ok-keep_mark.ensures.made) c.self.invariant.fit;
      shows = c.in-Err.ensures.list_err ∙ c.in_ok-keep_mark.ensures.list ∙ c.self.invariant.shows;
      marked = kept_stays (StandsFor (r.good before) (r.list_of before)) (StandsFor (r.good after) (r.list_of after)) r.older all every kept are
          (keeps_end_err all (r.good before) (r.good after) (r.list_of before) (r.list_of after) (r.list before) (r.list before ++ r.content c.index.result.now ∷ []) shown c.in-Err.ensures.marks_err);
      ends = end_same (StandsFor (r.good c.self.inside.replay) (r.list_of c.self.inside.replay)) (StandsFor (r.good after) (r.list_of after)) r.older all c.self.inside.cursor c.self.inside.kept.items kept c.self.inside.end
          c.self.invariant.ends (at_end ∙ sym long);
    }
