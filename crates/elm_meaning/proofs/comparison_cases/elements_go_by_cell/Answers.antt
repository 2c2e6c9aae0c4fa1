use Rattle.std.proofs.Common.{refl}
use Rattle.std.specs.Str.{chars}
use Rattle.std.specs.Fmt.{digits}
use lib.Utf8.{encode}
use Rattle.elm_meaning.specs.Evaluation.{to_depth, evaluate, eval}
use Rattle.elm_meaning.proofs.comparison_cases.elements_go_by_cell.Goals as goal

pub returns : goal.returns
unfolding chars digits encode to_depth evaluate eval
returns c = record { same = refl; cell = refl; rows = refl; width = refl; height = refl; no_order = refl }
