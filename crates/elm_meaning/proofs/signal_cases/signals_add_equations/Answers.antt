use Rattle.std.proofs.Common.{refl}
use Rattle.std.specs.Str.{chars}
use Rattle.std.specs.Fmt.{digits}
use lib.Utf8.{encode}
use Rattle.elm_meaning.specs.Evaluation.{to_depth, evaluate, eval}
use Rattle.elm_meaning.proofs.signal_cases.signals_add_equations.Goals as goal

pub returns : goal.returns
unfolding chars digits encode to_depth evaluate eval
returns c = record { input = refl; constant = refl; map = refl; map2 = refl; map3 = refl; map4 = refl; map5 = refl; foldp = refl; merge = refl; filter = refl; filter_map = refl; drop_repeats = refl; sample_on = refl; async_node = refl }
