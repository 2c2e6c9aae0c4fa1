use Rattle.std.proofs.Common.{◌*◌, ◌/◌, ◌+◌, ◌<◌, ◌≤◌, length, map, refl, sym, ◌∙◌, arith}
use Rattle.std.proofs.lemmas.List.{length-map, take_all}
use Rattle.std.proofs.lemmas.Option.{slice_get_read}
use Rattle.snapshots.proofs.Marks.{kept_after_cut}
use Rattle.snapshots.proofs.rewind.cut_to_last.Goals as goal

pub cut-requires : goal.cut-requires
cut-requires g c =
    let kept = c.args.kept.now in
    let place = length c.args.events.now / c.args.every in
    let mark = c.index-kept-place.result in
    let inside : place < length kept = omega (arith, c.requires.last) in
    let own = c.requires.kept.own place mark (slice_get_read kept (length kept) place mark refl inside c.index-kept-place.is) in
    own.is_good

pub returns-then-place-every-clause-kept : goal.returns-then-place-every-clause-kept
returns-then-place-every-clause-kept g c =
    let r = g.R.Replay in
    let kept = c.args.kept.now in
    let place = length c.args.events.now / c.args.every in
    let mark = c.index-kept-place.result in
    let inside : place < length kept = omega (arith, c.requires.last) in
    let short : length kept ≤ place + 1 = omega (arith, c.requires.last) in
    kept_after_cut (r.good c.args.replay.now) (r.good c.cut.new.self) (r.list_of c.args.replay.now) (r.list_of c.cut.new.self) r.older (map r.content c.args.events.now) c.args.every kept place mark
    c.requires.kept short (slice_get_read kept (length kept) place mark refl inside c.index-kept-place.is) c.cut.ensures.itself c.cut.ensures.marks

pub returns-then-place-every-clause-list : goal.returns-then-place-every-clause-list
returns-then-place-every-clause-list g c =
    let r = g.R.Replay in
    let kept = c.args.kept.now in
    let all = map r.content c.args.events.now in
    let place = length c.args.events.now / c.args.every in
    let mark = c.index-kept-place.result in
    let inside : place < length kept = omega (arith, c.requires.last) in
    let own = c.requires.kept.own place mark (slice_get_read kept (length kept) place mark refl inside c.index-kept-place.is) in
    let most : length all ≤ place * c.args.every = rw (length-map c.args.events.now r.content) (omega (arith, c.if-place-every.true)) in
    c.cut.ensures.list ∙ own.listed ∙ take_all (place * c.args.every) all most ∙ sym c.requires.at_end
