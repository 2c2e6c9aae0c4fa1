use Rattle.std.proofs.Common.{refl}
use Rattle.std.specs.Str.{chars}
use Rattle.std.specs.Fmt.{digits}
use lib.Utf8.{encode}
use Rattle.elm_meaning.specs.Evaluation.{to_depth, evaluate, eval}
use Rattle.elm_meaning.proofs.native_cases.divisions_round_as_said.Goals as goal

pub returns : goal.returns
unfolding chars digits encode to_depth evaluate eval
returns c = record { divide = refl; towards = refl; divisor = refl; both = refl; by_zero = refl; least = refl; modulo = refl; plain = refl; below = refl; negative = refl; whole = refl; modulo_zero = refl; modulo_least = refl; remainder = refl; sign = refl; remainder_zero = refl }
