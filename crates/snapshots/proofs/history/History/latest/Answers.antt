use Rattle.std.proofs.Common.{◌≡◌, length, map, sym, subst, ◌∙◌, arith, Some, Option}
use Rattle.std.proofs.lemmas.List.{length-map, take_all}
use Rattle.snapshots.specs.Past.{StandsFor}
use Rattle.snapshots.specs.Kept.{IsEnd}
use Rattle.snapshots.proofs.Marks.{kept_after_end, fit_stays}
use Rattle.snapshots.proofs.history.History.latest.Goals as goal

pub invariant_of-self : goal.invariant_of-self
invariant_of-self g c =
    let r = g.R.Replay in
    let events = c.self.inside.events.items in
    let all = map r.content events in
    let kept = c.self.inside.kept.items in
    let before = c.self.inside.replay in
    let after = c.cut.new.self in
    let mark = c.in-Some.end in
    let found : c.self.inside.end ≡ Some mark = sym c.take.ensures.value ∙ c.in-Some.is in
    let ends : IsEnd (StandsFor (r.good before) (r.list_of before)) r.older all c.self.inside.cursor kept (Some mark) =
    subst (λ (o : Option g.row.R-Mark.Denot). IsEnd (StandsFor (r.good before) (r.list_of before)) r.older all c.self.inside.cursor kept o) found c.self.invariant.ends in
    let here : c.len-self-inside.result ≡ length events = omega (arith, c.len-self-inside.ensures) in
    let long : c.len-self-inside.result ≡ length all = rw (length-map events r.content) here in
    rw c.take.ensures.after record {
      spaced = c.self.invariant.spaced;
      within = omega (arith, long);
      fit = fit_stays r.content r.fits (r.made before) (r.made after) events c.cut.ensures.made c.self.invariant.fit;
      shows = c.cut.ensures.list ∙ ends.1.listed ∙ sym (take_all c.len-self-inside.result all (omega (arith, long)));
      marked = kept_after_end (r.good before) (r.good after) (r.list_of before) (r.list_of after) r.older all c.self.inside.every kept mark
          c.self.invariant.marked ends.2 c.cut.ensures.marks;
      ends = long;
    }
