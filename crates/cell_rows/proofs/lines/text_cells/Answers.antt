use Rattle.std.proofs.Common.{◌∙◌, ◌≡◌, ap}
use Rattle.elm_meaning.specs.Texts.{text_chars}
use Rattle.elm_meaning.specs.Layout.{text_grid}
use Rattle.elm_meaning.proofs.Chars.{chars_are_scalars}
use Rattle.cell_rows.proofs.Grids.{lays_out}
use Rattle.cell_rows.proofs.TextLines.{IsGrid-text, text_rows}
use Rattle.cell_rows.proofs.lines.text_cells.Goals as goal

pub returns : goal.returns
returns c =
    let codes = text_chars c.args.text.now in
    let same : c.as_slice.result.now ≡ codes = c.as_slice.ensures.value ∙ c.in_ok-codes.ensures in
    let same_again : c.as_slice-2.result.now ≡ codes = c.as_slice-2.ensures.value ∙ c.in_ok-codes.ensures in
    let g = text_grid codes in
    let wide : c.size_of_lines-size.result.width ≡ g.width = c.size_of_lines-size.ensures.width ∙ ap (λ cs. (text_grid cs).width) same in
    let high : c.size_of_lines-size.result.height ≡ g.height = c.size_of_lines-size.ensures.height ∙ ap (λ cs. (text_grid cs).height) same in
    let laid = lays_out g (record { width = c.size_of_lines-size.result.width; height = c.size_of_lines-size.result.height; rows = c.in_ok-rows.rows })
    (IsGrid-text codes (chars_are_scalars c.args.text.now)) c.requires.within wide high
    (c.in_ok-rows.ensures ∙ text_rows codes c.as_slice-2.result.now c.size_of_lines-size.result.width same_again wide) in
    laid
