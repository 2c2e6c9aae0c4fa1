use Rattle.std.proofs.Common.{refl}
use Rattle.std.specs.Str.{chars}
use Rattle.std.specs.Fmt.{digits}
use lib.Utf8.{encode}
use Rattle.elm_meaning.specs.Evaluation.{to_depth, evaluate, eval}
use Rattle.elm_meaning.proofs.comparison_cases.single_values_are_one_pair.Goals as goal

pub returns : goal.returns
unfolding chars digits encode to_depth evaluate eval
returns c = record { ints = refl; other_ints = refl; less = refl; same = refl; greater = refl; chars = refl; other_chars = refl; earlier_char = refl; later_char = refl; units = refl; units_in_order = refl; signals = refl; other_signals = refl; signals_in_order = refl; kinds = refl; kinds_in_order = refl; text_and_list = refl }
