use Rattle.std.proofs.Common.{rules, ◌∙◌, sym}
use Rattle.std.proofs.lemmas.Str.{chars_from_encodes}
use Rattle.elm_meaning.proofs.Chars.{chars_of_text, no_chars_of_others}
use Rattle.cell_rows.proofs.bytes.chars_of.Goals as goal

pub returns-in_ok-collect-in-Ok : goal.returns-in_ok-collect-in-Ok
returns-in_ok-collect-in-Ok c = search (rules, chars_from_encodes) ∙ sym (chars_of_text _ c.in-Ok.ensures.cases.1)

pub returns-in-Err : goal.returns-in-Err
returns-in-Err c = c.new.ensures.items ∙ sym (no_chars_of_others _ c.in-Err.ensures.cases.0)
