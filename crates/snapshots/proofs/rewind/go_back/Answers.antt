use Rattle.std.proofs.Common.{◌<◌, length, map, ◌∙◌}
use Rattle.std.proofs.lemmas.List.{length-map}
use Rattle.snapshots.specs.Past.{StandsFor}
use Rattle.snapshots.proofs.Prefixes.{keeps_played, back_played, keeps_older}
use Rattle.snapshots.proofs.Marks.{read_kept}
use Rattle.snapshots.proofs.rewind.go_back.Goals as goal

pub restore-requires : goal.restore-requires
restore-requires g c =
    let r = g.R.Replay in
    let all = map r.content c.args.events.now in
    let mark = c.index-kept-place.result in
    let inside : c.args.cursor < length all = rw (length-map c.args.events.now r.content) c.requires.within in
    let own = read_kept (StandsFor (r.good c.args.replay.now) (r.list_of c.args.replay.now)) r.older all c.args.every c.args.kept.now c.args.cursor mark c.requires.spaced inside c.requires.kept c.index-kept-place.is in
    let marked = c.in_ok-shown.ensures.marks mark own.is_good in
    marked.is_good

pub replay_between-requires-clause-shows : goal.replay_between-requires-clause-shows
replay_between-requires-clause-shows g c =
    let r = g.R.Replay in
    let all = map r.content c.args.events.now in
    let mark = c.index-kept-place.result in
    let inside : c.args.cursor < length all = rw (length-map c.args.events.now r.content) c.requires.within in
    let own = read_kept (StandsFor (r.good c.args.replay.now) (r.list_of c.args.replay.now)) r.older all c.args.every c.args.kept.now c.args.cursor mark c.requires.spaced inside c.requires.kept c.index-kept-place.is in
    let marked = c.in_ok-shown.ensures.marks mark own.is_good in
    c.restore.ensures.list ∙ marked.listed ∙ own.listed

pub returns-in-Ok-clause-newest : goal.returns-in-Ok-clause-newest
returns-in-Ok-clause-newest g c = λ k a here. let own = c.requires.kept.own k a here in c.in_ok-shown.ensures.newest a own.is_good

pub returns-in-Ok-clause-marks : goal.returns-in-Ok-clause-marks
returns-in-Ok-clause-marks g c =
    let r = g.R.Replay in
    let all = map r.content c.args.events.now in
    keeps_played all (r.good c.args.replay.now) (r.good c.mark.new.self) (r.good c.restore.new.self) (r.list_of c.args.replay.now) (r.list_of c.mark.new.self) (r.list_of c.restore.new.self)
    (StandsFor (r.good c.replay_between.new.replay) (r.list_of c.replay_between.new.replay)) c.in_ok-shown.ensures.marks c.restore.ensures.marks c.in-Ok.ensures.marks

pub returns-in-Ok-clause-back : goal.returns-in-Ok-clause-back
returns-in-Ok-clause-back g c =
    let r = g.R.Replay in
    let all = map r.content c.args.events.now in
    back_played all (r.good c.mark.new.self) (r.good c.restore.new.self) (r.list_of c.mark.new.self) (r.list_of c.restore.new.self)
    (StandsFor (r.good c.replay_between.new.replay) (r.list_of c.replay_between.new.replay)) c.in_ok-shown.shown (r.list c.args.replay.now) (r.list c.mark.new.self)
    c.requires.shows c.in_ok-shown.ensures.list c.in_ok-shown.ensures.given c.restore.ensures.marks c.in-Ok.ensures.marks

pub cut-requires : goal.cut-requires
cut-requires g c =
    let r = g.R.Replay in
    let all = map r.content c.args.events.now in
    let back = back_played all (r.good c.mark.new.self) (r.good c.restore.new.self) (r.list_of c.mark.new.self) (r.list_of c.restore.new.self)
    (StandsFor (r.good c.replay_between.new.replay) (r.list_of c.replay_between.new.replay)) c.in_ok-shown.shown (r.list c.args.replay.now) (r.list c.mark.new.self)
    c.requires.shows c.in_ok-shown.ensures.list c.in_ok-shown.ensures.given c.restore.ensures.marks c.in-Err.ensures.marks in
    back.is_good

pub returns-in-Err-clause-shows_err : goal.returns-in-Err-clause-shows_err
returns-in-Err-clause-shows_err g c =
    let r = g.R.Replay in
    let all = map r.content c.args.events.now in
    let back = back_played all (r.good c.mark.new.self) (r.good c.restore.new.self) (r.list_of c.mark.new.self) (r.list_of c.restore.new.self)
    (StandsFor (r.good c.replay_between.new.replay) (r.list_of c.replay_between.new.replay)) c.in_ok-shown.shown (r.list c.args.replay.now) (r.list c.mark.new.self)
    c.requires.shows c.in_ok-shown.ensures.list c.in_ok-shown.ensures.given c.restore.ensures.marks c.in-Err.ensures.marks in
    c.cut.ensures.list ∙ back.listed

pub returns-in-Err-clause-marks : goal.returns-in-Err-clause-marks
returns-in-Err-clause-marks g c =
    let r = g.R.Replay in
    let all = map r.content c.args.events.now in
    keeps_older all (StandsFor (r.good c.args.replay.now) (r.list_of c.args.replay.now)) (r.good c.replay_between.new.replay) (r.good c.cut.new.self) (r.list_of c.replay_between.new.replay) (r.list_of c.cut.new.self) r.older c.in_ok-shown.shown
    (keeps_played all (r.good c.args.replay.now) (r.good c.mark.new.self) (r.good c.restore.new.self) (r.list_of c.args.replay.now) (r.list_of c.mark.new.self) (r.list_of c.restore.new.self)
    (StandsFor (r.good c.replay_between.new.replay) (r.list_of c.replay_between.new.replay)) c.in_ok-shown.ensures.marks c.restore.ensures.marks c.in-Err.ensures.marks)
    (λ m n h. c.in_ok-shown.ensures.newest m h.is_good) c.cut.ensures.marks
