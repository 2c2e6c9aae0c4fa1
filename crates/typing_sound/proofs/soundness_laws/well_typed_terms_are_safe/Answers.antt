use Rattle.typing_sound.proofs.Laws.{term_safe_in}
use Rattle.typing_sound.proofs.soundness_laws.well_typed_terms_are_safe.Goals as goal

pub returns : goal.returns
returns c = λ p tops stage e t fuel T h. term_safe_in p tops stage e t fuel T h
