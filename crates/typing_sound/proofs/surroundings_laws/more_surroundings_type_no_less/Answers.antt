use Rattle.typing_sound.proofs.Laws.{more_in}
use Rattle.typing_sound.specs.Settings.{world_of}
use Rattle.typing_sound.specs.Settings.{types_in}
use Rattle.typing_sound.proofs.surroundings_laws.more_surroundings_type_no_less.Goals as goal

pub returns : goal.returns
returns c = λ p a b e t f h. more_in (world_of p) (types_in (world_of p) a) (types_in (world_of p) b) e t f h
