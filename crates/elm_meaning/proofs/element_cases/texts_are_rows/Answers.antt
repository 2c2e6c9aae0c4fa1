use Rattle.std.proofs.Common.{refl}
use Rattle.std.specs.Str.{chars, is_utf8}
use Rattle.std.specs.Fmt.{digits}
use lib.Utf8.{encode}
use Rattle.elm_meaning.specs.Evaluation.{to_depth, evaluate, eval}
use Rattle.elm_meaning.proofs.element_cases.texts_are_rows.Goals as goal

pub returns : goal.returns
unfolding chars is_utf8 digits encode to_depth evaluate eval
returns c = record { row = refl; rows = refl; empty = refl; control = refl; wide = refl; no_text = refl }
