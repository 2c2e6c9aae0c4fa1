use Rattle.std.proofs.Common.{◌∙◌, refl, sym}
use Rattle.elm_meaning.specs.Layout.{blank}
use Rattle.cell_rows.proofs.Codes.{encodes_blank_rows}
use Rattle.cell_rows.proofs.Grids.{lays_out, IsGrid-blank}
use Rattle.cell_rows.proofs.blanks.spacer.Goals as goal

pub returns : goal.returns
returns c =
    lays_out (blank c.args.width c.args.height) (record { width = c.args.width; height = c.args.height; rows = c.in_ok-rows.rows })
    (IsGrid-blank c.args.width c.args.height) (c.requires.wide, c.requires.high) refl refl
    (c.in_ok-rows.ensures ∙ sym (encodes_blank_rows c.args.height c.args.width))
