use Rattle.typing_sound.proofs.Filled.{term_filled}
use Rattle.typing_sound.specs.Settings.{world_of}
use Rattle.typing_sound.specs.Settings.{types_in}
use Rattle.typing_sound.proofs.surroundings_laws.substitution_keeps_types.Goals as goal

pub returns : goal.returns
returns c = λ p a b σ e t f h. term_filled (world_of p) e (types_in (world_of p) a) (types_in (world_of p) b) σ f t h
