use Rattle.std.proofs.Common.{refl}
use Rattle.std.specs.Str.{chars}
use Rattle.std.specs.Fmt.{digits}
use lib.Utf8.{encode}
use Rattle.elm_meaning.specs.Evaluation.{to_depth, evaluate, eval}
use Rattle.elm_meaning.proofs.native_cases.equalities_cost_their_pairs.Goals as goal

pub returns : goal.returns
unfolding chars digits encode to_depth evaluate eval
returns c = record { equal = refl; different = refl; kinds = refl; pairs = refl; functions = refl; unequal = refl; same = refl; no_inequality = refl }
