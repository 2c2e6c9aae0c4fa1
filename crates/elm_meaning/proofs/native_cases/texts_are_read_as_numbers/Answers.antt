use Rattle.std.proofs.Common.{refl}
use Rattle.std.specs.Str.{chars}
use Rattle.std.specs.Fmt.{digits}
use lib.Utf8.{encode}
use Rattle.elm_meaning.specs.Evaluation.{to_depth, evaluate, eval}
use Rattle.elm_meaning.proofs.native_cases.texts_are_read_as_numbers.Goals as goal

pub returns : goal.returns
unfolding chars digits encode to_depth evaluate eval
returns c = record { number = refl; negative = refl; zeros = refl; no_zero = refl; least = refl; above = refl; no_digit = refl; empty = refl; plus = refl; behind = refl; before_zero = refl; after_nine = refl }
