use Rattle.std.proofs.Common.{◌≡◌, ◌∙◌, ap, sym, pos, ◌-ℤ◌, ◌++◌, List, ℕ}
use Rattle.std.specs.Char.{encode_utf8}
use Rattle.elm_meaning.specs.Layout.{cell_at}
use Rattle.cell_rows.specs.Frames.{margin_at}
use Rattle.cell_rows.proofs.Framed.{framed-more}
use Rattle.cell_rows.proofs.frames.framed.Goals as goal

pub loop-x-preserved : goal.loop-x-preserved
loop-x-preserved c =
    let left = margin_at c.args.left in
    let cell : c.cell.result ≡ cell_at (pos c.loop-x.x -ℤ left) c.args.codes.now = c.cell.ensures (pos c.loop-x.x -ℤ left) c.place.ensures in
    c.in_ok-push_char.ensures
    ∙ ap (λ (code : ℕ). c.loop-x.row.items ++ encode_utf8 code) cell
    ∙ ap (λ (before : List ℕ). before ++ encode_utf8 (cell_at (pos c.loop-x.x -ℤ left) c.args.codes.now)) c.loop-x.invariant
    ∙ sym (framed-more c.loop-x.x left c.args.codes.now)
