use Rattle.std.proofs.Common.{◌≡◌, ◌/◌, ◌+◌, ◌≤◌, List, length, map, take, sym, ap, subst, ◌∙◌, arith}
use Rattle.std.proofs.lemmas.List.{length-map, length-take-le, take-map, take_all}
use Rattle.snapshots.specs.Past.{StandsFor}
use Rattle.snapshots.specs.Kept.{AreKept}
use Rattle.snapshots.proofs.Marks.{kept_cut, fit_stays, fit_cut}
use Rattle.snapshots.proofs.history.History.resume.Goals as goal

pub cut_to_last-requires-clause-at_end : goal.cut_to_last-requires-clause-at_end
cut_to_last-requires-clause-at_end g c =
    let r = g.R.Replay in
    c.self.invariant.shows ∙ take-map r.content c.self.inside.cursor c.self.inside.events.items
    ∙ ap (λ es. map r.content es) (sym (c.as_slice.ensures.value ∙ c.truncate.ensures.items))

pub cut_to_last-requires-clause-kept : goal.cut_to_last-requires-clause-kept
cut_to_last-requires-clause-kept g c =
    let r = g.R.Replay in
    let events = c.self.inside.events.items in
    let all = map r.content events in
    let cursor = c.self.inside.cursor in
    let every = c.self.inside.every in
    let kept = c.self.inside.kept.items in
    let before = c.self.inside.replay in
    let shorter : take cursor all ≡ map r.content c.as_slice.result.now =
    take-map r.content cursor events ∙ ap (λ es. map r.content es) (sym (c.as_slice.ensures.value ∙ c.truncate.ensures.items)) in
    let fewer : take (cursor / every + 1) kept ≡ c.as_slice-2.result.now = sym (c.as_slice-2.ensures.value ∙ c.truncate-2.ensures.items) in
    subst (λ (es : List g.row.R-Content.Denot). AreKept (StandsFor (r.good before) (r.list_of before)) r.older es every c.as_slice-2.result.now) shorter
    (subst (λ (ms : List g.row.R-Mark.Denot). AreKept (StandsFor (r.good before) (r.list_of before)) r.older (take cursor all) every ms) fewer
    (kept_cut (StandsFor (r.good before) (r.list_of before)) r.older all every kept cursor c.self.invariant.spaced c.self.invariant.within c.self.invariant.marked))

pub invariant_of-self : goal.invariant_of-self
invariant_of-self g c =
    let r = g.R.Replay in
    let events = c.self.inside.events.items in
    let cursor = c.self.inside.cursor in
    let every = c.self.inside.every in
    let before = c.self.inside.replay in
    let after = c.cut_to_last.new.replay in
    let left = take cursor events in
    let most : cursor ≤ length events = omega (arith, c.self.invariant.within, length-map events r.content) in
    let long : length (map r.content left) ≡ cursor = length-map left r.content ∙ length-take-le cursor events most in
    let shown : r.list before ≡ map r.content left = c.self.invariant.shows ∙ take-map r.content cursor events in
    let kept : AreKept (StandsFor (r.good after) (r.list_of after)) r.older (map r.content left) every (take (cursor / every + 1) c.self.inside.kept.items) =
    subst (λ (es : List g.row.R-Event.Denot). AreKept (StandsFor (r.good after) (r.list_of after)) r.older (map r.content es) every (take (cursor / every + 1) c.self.inside.kept.items)) (c.as_slice.ensures.value ∙ c.truncate.ensures.items)
    (subst (λ (ms : List g.row.R-Mark.Denot). AreKept (StandsFor (r.good after) (r.list_of after)) r.older (map r.content c.as_slice.result.now) every ms) (c.as_slice-2.ensures.value ∙ c.truncate-2.ensures.items) c.cut_to_last.ensures.kept) in
    rw (c.truncate.ensures.items, c.truncate-2.ensures.items) record {
      spaced = c.self.invariant.spaced;
      within = omega (arith, long);
      fit = fit_stays r.content r.fits (r.made before) (r.made after) left c.cut_to_last.ensures.made (fit_cut r.content (r.fits (r.made before)) events cursor c.self.invariant.fit);
      shows = c.cut_to_last.ensures.list ∙ shown ∙ sym (take_all cursor (map r.content left) (omega (arith, long)));
      marked = kept;
      ends = sym long;
    }

pub returns-clause-shows : goal.returns-clause-shows
returns-clause-shows g c =
    let r = g.R.Replay in
    c.cut_to_last.ensures.list ∙ c.self.invariant.shows ∙ take-map r.content c.self.inside.cursor c.self.inside.events.items
    ∙ ap (λ es. map r.content es) (sym c.truncate.ensures.items)
