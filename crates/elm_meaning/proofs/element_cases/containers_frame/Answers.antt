use Rattle.std.proofs.Common.{refl}
use Rattle.std.specs.Str.{chars}
use Rattle.std.specs.Fmt.{digits}
use lib.Utf8.{encode}
use Rattle.elm_meaning.specs.Evaluation.{to_depth, evaluate, eval}
use Rattle.elm_meaning.proofs.element_cases.containers_frame.Goals as goal

pub returns : goal.returns
unfolding chars digits encode to_depth evaluate eval
returns c = record { middle = refl; top_left = refl; bottom_right = refl; cut_off = refl; cut_left = refl; negative = refl; too_wide = refl; no_position = refl }
