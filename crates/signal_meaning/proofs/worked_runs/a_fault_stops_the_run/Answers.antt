use Rattle.std.proofs.Common.{refl}
use Rattle.std.specs.Str.{chars, is_utf8}
use Rattle.std.specs.Fmt.{digits}
use lib.Utf8.{encode}
use Rattle.elm_meaning.specs.Evaluation.{to_depth, evaluate, eval}
use Rattle.signal_meaning.proofs.worked_runs.a_fault_stops_the_run.Goals as goal

pub returns : goal.returns
unfolding chars is_utf8 digits encode to_depth evaluate eval
returns c = record { start = refl; one = refl; stopped = refl; kept = refl; state_kept = refl; later = refl; still = refl; good = refl; unchanged = refl; fixed = refl; negative = refl; range = refl; range_kept = refl }
