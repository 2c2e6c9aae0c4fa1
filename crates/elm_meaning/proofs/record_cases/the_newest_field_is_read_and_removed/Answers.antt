use Rattle.std.proofs.Common.{refl}
use Rattle.std.specs.Str.{chars}
use Rattle.std.specs.Fmt.{digits}
use lib.Utf8.{encode}
use Rattle.elm_meaning.specs.Evaluation.{to_depth, evaluate, eval}
use Rattle.elm_meaning.proofs.record_cases.the_newest_field_is_read_and_removed.Goals as goal

pub returns : goal.returns
unfolding chars digits encode to_depth evaluate eval
returns c = record { read = refl; second = refl; removed = refl; between = refl; no_field = refl; none_to_remove = refl; no_record = refl; nothing_removed = refl; scoped = refl }
