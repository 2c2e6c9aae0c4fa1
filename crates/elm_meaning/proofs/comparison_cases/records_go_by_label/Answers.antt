use Rattle.std.proofs.Common.{refl}
use Rattle.std.specs.Str.{chars}
use Rattle.std.specs.Fmt.{digits}
use lib.Utf8.{encode}
use Rattle.elm_meaning.specs.Evaluation.{to_depth, evaluate, eval}
use Rattle.elm_meaning.proofs.comparison_cases.records_go_by_label.Goals as goal

pub returns : goal.returns
unfolding chars digits encode to_depth evaluate eval
returns c = record { same = refl; first = refl; newest = refl; hidden = refl; labels = refl; times = refl; none = refl; no_order = refl }
