use Rattle.std.proofs.Common.{refl}
use Rattle.std.specs.Str.{chars, is_utf8}
use Rattle.std.specs.Fmt.{digits}
use lib.Utf8.{encode}
use Rattle.elm_meaning.specs.Evaluation.{to_depth, evaluate, eval}
use Rattle.signal_meaning.proofs.worked_runs.samples_inputs_and_constants.Goals as goal

pub returns : goal.returns
unfolding chars is_utf8 digits encode to_depth evaluate eval
returns c = record { start = refl; waits = refl; taken = refl; constant = refl; steady = refl; equal = refl; other = refl; window = refl; no_start = refl; value = refl; pending = refl }
