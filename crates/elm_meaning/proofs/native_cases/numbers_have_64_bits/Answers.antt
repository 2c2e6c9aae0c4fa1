use Rattle.std.proofs.Common.{refl}
use Rattle.std.specs.Str.{chars}
use Rattle.std.specs.Fmt.{digits}
use lib.Utf8.{encode}
use Rattle.elm_meaning.specs.Evaluation.{to_depth, evaluate, eval}
use Rattle.elm_meaning.proofs.native_cases.numbers_have_64_bits.Goals as goal

pub returns : goal.returns
unfolding chars digits encode to_depth evaluate eval
returns c = record { add = refl; most = refl; above = refl; below = refl; subtract = refl; least = refl; less = refl; multiply = refl; signs = refl; product = refl; negate = refl; back = refl; no_negative = refl }
