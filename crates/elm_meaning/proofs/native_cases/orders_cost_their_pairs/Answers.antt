use Rattle.std.proofs.Common.{refl}
use Rattle.std.specs.Str.{chars}
use Rattle.std.specs.Fmt.{digits}
use lib.Utf8.{encode}
use Rattle.elm_meaning.specs.Evaluation.{to_depth, evaluate, eval}
use Rattle.elm_meaning.proofs.native_cases.orders_cost_their_pairs.Goals as goal

pub returns : goal.returns
unfolding chars digits encode to_depth evaluate eval
returns c = record { less = refl; less_same = refl; less_greater = refl; greater = refl; greater_same = refl; greater_less = refl; at_most = refl; at_most_same = refl; at_most_greater = refl; at_least = refl; at_least_same = refl; at_least_greater = refl; compare = refl; compare_same = refl; compare_greater = refl; functions = refl; no_order = refl; no_parts = refl }
