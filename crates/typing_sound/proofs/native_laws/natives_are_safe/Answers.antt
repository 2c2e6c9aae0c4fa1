use Rattle.typing_sound.proofs.Natives.{safe_native}
use Rattle.typing_sound.proofs.Laws.{library}
use Rattle.typing_sound.specs.Settings.{world_of}
use Rattle.typing_sound.proofs.native_laws.natives_are_safe.Goals as goal

pub returns : goal.returns
returns c = λ p n native written e f. safe_native (world_of p) (library p) n native written e f
