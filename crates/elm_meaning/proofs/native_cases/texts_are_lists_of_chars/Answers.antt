use Rattle.std.proofs.Common.{refl}
use Rattle.std.specs.Str.{chars, is_utf8}
use Rattle.std.specs.Fmt.{digits}
use lib.Utf8.{encode}
use Rattle.elm_meaning.specs.Evaluation.{to_depth, evaluate, eval}
use Rattle.elm_meaning.proofs.native_cases.texts_are_lists_of_chars.Goals as goal

pub returns : goal.returns
unfolding chars is_utf8 digits encode to_depth evaluate eval
returns c = record { length = refl; reversed = refl; chars = refl; text = refl; empty = refl; no_text = refl; surrogate = refl; no_chars = refl }
