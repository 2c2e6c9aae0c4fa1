use Rattle.std.proofs.Common.{refl}
use Rattle.std.specs.Str.{chars, is_utf8}
use Rattle.std.specs.Fmt.{digits}
use lib.Utf8.{encode}
use Rattle.elm_meaning.specs.Evaluation.{to_depth, evaluate, eval}
use Rattle.signal_meaning.proofs.worked_runs.a_delivery_may_find_nothing.Goals as goal

pub returns : goal.returns
unfolding chars is_utf8 digits encode to_depth evaluate eval
returns c = record { same = refl; unchanged = refl; later = refl; no_async = refl }
