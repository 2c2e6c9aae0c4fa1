use Rattle.typing_sound.proofs.Laws.{term_safe_in, well_typed_after}
use Rattle.typing_sound.specs.Settings.{world_of}
use Rattle.std.specs.Prelude.{Some}
use Rattle.elm_meaning.specs.Evaluation.{eval}
use Rattle.typing_sound.proofs.soundness_laws.equations_are_well_typed_in_order.Goals as goal

pub returns : goal.returns
returns c = λ p tops qs e t fuel T h d. well_typed_after (world_of p) qs t (eval tops (Some qs) e fuel) (term_safe_in p tops (Some qs) e t fuel T h) d
