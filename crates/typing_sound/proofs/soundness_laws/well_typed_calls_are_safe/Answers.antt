use Rattle.typing_sound.proofs.Laws.{call_safe_in}
use Rattle.typing_sound.proofs.soundness_laws.well_typed_calls_are_safe.Goals as goal

pub returns : goal.returns
returns c = λ p tops f vs whole t fuel T h k m. call_safe_in p tops f vs whole t fuel T h k m
