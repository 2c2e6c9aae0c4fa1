use Rattle.std.proofs.Common.{◌≡◌, ◌∙◌, ap, sym, arith, map, pos, ◌-ℤ◌, ◌++◌, ◌∷◌, [], List, ℕ}
use Rattle.std.specs.Str.{chars}
use Rattle.std.proofs.lemmas.List.FromFn.{map-range_with_len_more}
use Rattle.elm_meaning.specs.Layout.{row_at}
use Rattle.cell_rows.specs.Frames.{margin_at, framed_row}
use Rattle.cell_rows.proofs.frames.frame.Goals as goal

pub loop-y-preserved : goal.loop-y-preserved
loop-y-preserved c =
    let rows = map chars c.args.inner.now.rows in
    let left = margin_at c.args.left in
    let place = pos c.loop-y.y -ℤ margin_at c.args.top in
    let more =
    map-range_with_len_more (λ y. framed_row c.args.size.0 left (row_at (pos y -ℤ margin_at c.args.top) rows)) 0 c.loop-y.y c.loop-y.y (omega arith) in
    let codes : c.as_slice.result.now ≡ row_at place rows = c.as_slice.ensures.value ∙ c.in_ok-codes.ensures place c.place.ensures in
    c.in_ok-push.ensures.ok
    ∙ ap (λ (row : List ℕ). c.loop-y.rows ++ row ∷ []) (c.in_ok-framed.ensures ∙ ap (framed_row c.args.size.0 left) codes)
    ∙ ap (λ (before : List (List ℕ)). before ++ framed_row c.args.size.0 left (row_at place rows) ∷ []) c.loop-y.invariant
    ∙ sym more
