use Rattle.std.proofs.Common.{IfOk, ◌≡◌, ◌∙◌, sym, subst, true}
use Rattle.std.specs.Str.{is_utf8}
use Rattle.std.proofs.lemmas.Str.{IsUtf8-from_is_utf8}
use Rattle.elm_meaning.proofs.Chars.{chars_of_text}
use Rattle.cell_rows.proofs.Steps.{utf8_row, if_codes_there, no_codes_there}
use Rattle.cell_rows.proofs.frames.codes_at.Goals as goal

pub returns-in-Some-get : goal.returns-in-Some-get
returns-in-Some-get c =
    let row = utf8_row c.args.inner.now.width c.args.inner.now.rows c.in-Some.at c.in-Some-get.row.now c.requires.1 (sym c.in-Some-get.ensures.value) in
    let text : is_utf8 c.bytes.result.now ≡ true = subst (λ bytes. is_utf8 bytes ≡ true) (sym c.bytes.ensures) row in
    λ place e.
    if_codes_there c.args.inner.now.rows place c.in-Some.at c.in-Some-get.row.now c.bytes.result.now c.chars_of.result
    (sym c.in-Some.is ∙ e) (sym c.in-Some-get.ensures.value) c.bytes.ensures
    (subst (λ codes. IfOk c.chars_of.result (λ found. found.items ≡ codes)) (chars_of_text _ (IsUtf8-from_is_utf8 _ text)) c.chars_of.ensures)

pub returns-in-None : goal.returns-in-None
returns-in-None c = λ place e.
    c.new-in-None.ensures.items ∙ sym (no_codes_there c.args.inner.now.rows place c.in-Some.at (sym c.in-Some.is ∙ e) c.in-None.ensures.value)
