use Rattle.std.proofs.Common.{◌∙◌, refl}
use Rattle.cell_rows.specs.Elements.{grid}
use Rattle.cell_rows.specs.Frames.{margin_at}
use Rattle.elm_meaning.specs.Layout.{framed}
use Rattle.cell_rows.proofs.Framed.{frame_rows_are, IsGrid-framed}
use Rattle.cell_rows.proofs.Grids.{lays_out, IsGrid-whole}
use Rattle.cell_rows.proofs.Replies.{container_answer}
use Rattle.cell_rows.proofs.frames.container.Goals as goal

pub returns : goal.returns
returns c =
    let left = margin_at c.edge-left.result in
    let top = margin_at c.edge-top.result in
    let inner = grid c.args.inner.now in
    let g = framed c.args.width c.args.height left top inner in
    let laid = lays_out g (record { width = c.args.width; height = c.args.height; rows = c.in_ok-rows.rows })
    (IsGrid-framed c.args.width c.args.height left top inner (IsGrid-whole c.args.inner.now c.requires.whole))
    (c.requires.wide, c.requires.high) refl refl (c.in_ok-rows.ensures ∙ frame_rows_are c.args.width c.args.height left top inner) in
    (container_answer c.args.width c.args.height c.args.position c.args.inner.now left top c.edge-left.ensures c.edge-top.ensures ∙ laid.0, laid.1)
