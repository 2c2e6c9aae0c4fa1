use Rattle.std.proofs.Common.{◌≡◌, ◌<◌, ◌≤◌, ℕ, List, length, take, map, sym, ap, subst, ◌∙◌, arith, unwrap_or, Some, slice_get}
use Rattle.std.proofs.lemmas.List.{length-map}
use Rattle.snapshots.specs.Kept.{Recorded, IsEnd}
use Rattle.snapshots.specs.Past.{StandsFor, KeepsPrefixes}
use Rattle.snapshots.specs.Prefixes.{IsPrefix}
use Rattle.snapshots.proofs.Prefixes.{prefix_of_all}
use Rattle.snapshots.proofs.Marks.{kept_stays, fit_stays, end_stays, end_moved}
use Rattle.snapshots.proofs.history.History.goto.Goals as goal

pub go_back-requires-clause-shows : goal.go_back-requires-clause-shows
go_back-requires-clause-shows g c =
    let r = g.R.Replay in
    let all = map r.content c.self.inside.events.items in
    let prefix : IsPrefix (r.list c.self.inside.replay) all =
    subst (λ (es : List g.row.R-Content.Denot). IsPrefix es all) (sym c.self.invariant.shows) (prefix_of_all all c.self.inside.cursor) in
    subst (λ (es : List g.row.R-Event.Denot). IsPrefix (r.list c.self.inside.replay) (map r.content es)) (sym c.as_slice.ensures.value) prefix

pub invariant_of-self : goal.invariant_of-self
invariant_of-self g c =
    let r = g.R.Replay in
    let events = c.self.inside.events.items in
    let all = map r.content events in
    let before = c.self.inside.replay in
    let after = c.go_back.new.replay in
    let keeps : KeepsPrefixes all (StandsFor (r.good before) (r.list_of before)) (StandsFor (r.good after) (r.list_of after)) =
    subst (λ (es : List g.row.R-Event.Denot). KeepsPrefixes (map r.content es) (StandsFor (r.good before) (r.list_of before)) (StandsFor (r.good after) (r.list_of after))) c.as_slice.ensures.value c.in_err-shown.ensures.marks in
    record {
      spaced = c.self.invariant.spaced;
      within = c.self.invariant.within;
      fit = fit_stays r.content r.fits (r.made before) (r.made after) events c.in_err-shown.ensures.made c.self.invariant.fit;
      shows = c.in_err-shown.ensures.shows_err ∙ c.self.invariant.shows;
      marked = kept_stays (StandsFor (r.good before) (r.list_of before)) (StandsFor (r.good after) (r.list_of after)) r.older all c.self.inside.every c.self.inside.kept.items c.self.invariant.marked keeps;
      ends = end_stays (StandsFor (r.good before) (r.list_of before)) (StandsFor (r.good after) (r.list_of after)) r.older all c.self.inside.cursor c.self.inside.kept.items c.self.inside.end c.self.invariant.ends keeps;
    }

pub invariant_of-self-2 : goal.invariant_of-self-2
invariant_of-self-2 g c =
    let r = g.R.Replay in
    let events = c.self.inside.events.items in
    let all = map r.content events in
    let kept = c.self.inside.kept.items in
    let before = c.self.inside.replay in
    let after = c.go_back.new.replay in
    let shown = c.in_ok-shown.shown in
    let keeps : KeepsPrefixes all (StandsFor (r.good before) (r.list_of before)) (StandsFor (r.good after) (r.list_of after)) =
    subst (λ (es : List g.row.R-Event.Denot). KeepsPrefixes (map r.content es) (StandsFor (r.good before) (r.list_of before)) (StandsFor (r.good after) (r.list_of after))) c.as_slice.ensures.value c.in_ok-shown.ensures.marks in
    let newest : (k : ℕ) (a : g.row.R-Mark.Denot) → slice_get kept k ≡ Some a → r.older a shown =
    subst (λ (ms : List g.row.R-Mark.Denot). (k : ℕ) (a : g.row.R-Mark.Denot) → slice_get ms k ≡ Some a → r.older a shown) c.as_slice-2.ensures.value c.in_ok-shown.ensures.newest in
    let most : c.args.cursor ≤ length events = subst (λ (h : Recorded g.row.R.Denot g.row.R-Event.Denot). c.args.cursor ≤ length h.events) (sym c.self.view_is) c.requires in
    let here : c.len.result ≡ length events = omega (arith, c.len.ensures) in
    let less : c.args.cursor < length all = rw (length-map events r.content) (omega (arith, most, here)) in
    let shows : r.list after ≡ take c.args.cursor all =
    subst (λ (es : List g.row.R-Event.Denot). r.list after ≡ take c.args.cursor (map r.content es)) c.as_slice.ensures.value c.in_ok-shown.ensures.shows in
    let ends : IsEnd (StandsFor (r.good after) (r.list_of after)) r.older all c.args.cursor kept (Some (unwrap_or c.self.inside.end shown)) =
    end_moved (StandsFor (r.good before) (r.list_of before)) (StandsFor (r.good after) (r.list_of after)) r.older all c.self.inside.cursor kept c.self.inside.end
    (r.list before) shown c.args.cursor c.self.invariant.ends keeps c.self.invariant.shows c.in_ok-shown.ensures.back newest less in
    let end : c.unwrap_or.result ≡ unwrap_or c.self.inside.end shown = c.unwrap_or.ensures ∙ ap (λ o. unwrap_or o shown) c.take.ensures.value in
    record {
      spaced = c.self.invariant.spaced;
      within = omega (arith, less);
      fit = fit_stays r.content r.fits (r.made before) (r.made after) events c.in_ok-shown.ensures.made c.self.invariant.fit;
      shows = shows;
      marked = kept_stays (StandsFor (r.good before) (r.list_of before)) (StandsFor (r.good after) (r.list_of after)) r.older all c.self.inside.every kept c.self.invariant.marked keeps;
      ends = subst (λ (m : g.row.R-Mark.Denot). IsEnd (StandsFor (r.good after) (r.list_of after)) r.older all c.args.cursor kept (Some m)) (sym end) ends;
    }
