use Rattle.std.proofs.Common.{◌≡◌, ◌/◌, ◌∙◌, length, map, subst, arith, List}
use Rattle.std.proofs.lemmas.List.{length-map}
use Rattle.snapshots.specs.Past.{StandsFor}
use Rattle.snapshots.proofs.Prefixes.{keeps_all, keeps_each}
use Rattle.snapshots.proofs.Marks.{kept_stays, kept_added}
use Rattle.snapshots.proofs.rewind.keep_mark.Goals as goal

pub returns-in_err-mark-clause-kept : goal.returns-in_err-mark-clause-kept
returns-in_err-mark-clause-kept g c =
    let r = g.R.Replay in
    let all = map r.content c.args.events.now in
    let before = c.args.replay.now in
    let after = c.mark.new.self in
    kept_stays (StandsFor (r.good before) (r.list_of before)) (StandsFor (r.good after) (r.list_of after)) r.older all c.args.every c.args.kept.now.items c.requires.kept
    (keeps_all all (r.good before) (r.good after) (r.list_of before) (r.list_of after) c.in_err-mark.ensures.marks)

pub returns-in_err-push-clause-kept : goal.returns-in_err-push-clause-kept
returns-in_err-push-clause-kept g c =
    let r = g.R.Replay in
    let all = map r.content c.args.events.now in
    let before = c.args.replay.now in
    let after = c.mark.new.self in
    let same : c.push.new.self.items ≡ c.args.kept.now.items = c.in_err-push.ensures.items in
    rw same (kept_stays (StandsFor (r.good before) (r.list_of before)) (StandsFor (r.good after) (r.list_of after)) r.older all c.args.every c.args.kept.now.items c.requires.kept
    (keeps_all all (r.good before) (r.good after) (r.list_of before) (r.list_of after) c.in_ok-mark.ensures.marks))

pub returns-in_ok-push-clause-kept : goal.returns-in_ok-push-clause-kept
returns-in_ok-push-clause-kept g c =
    let r = g.R.Replay in
    let all = map r.content c.args.events.now in
    let before = c.args.replay.now in
    let after = c.mark.new.self in
    let mark = c.in_ok-mark.mark in
    let count : c.len.result ≡ length c.args.kept.now.items = omega (arith, c.len.ensures) in
    let due : length all / c.args.every ≡ length c.args.kept.now.items = rw (length-map c.args.events.now r.content) (c.if-due.true ∙ count) in
    let given : StandsFor (r.good after) (r.list_of after) mark all =
    subst (λ (es : List g.row.R-Content.Denot). StandsFor (r.good after) (r.list_of after) mark es) (c.in_ok-mark.ensures.list ∙ c.requires.at_end) c.in_ok-mark.ensures.given in
    rw c.in_ok-push.ensures.items (kept_added (StandsFor (r.good before) (r.list_of before)) (StandsFor (r.good after) (r.list_of after)) r.older all c.args.every c.args.kept.now.items mark
    c.requires.spaced c.requires.kept due
    (keeps_each (r.good before) (r.good after) (r.list_of before) (r.list_of after) c.in_ok-mark.ensures.marks) given
    (λ k a here. let own = c.requires.kept.own k a here in c.in_ok-mark.ensures.newest a own.is_good))
