use Rattle.typing_sound.specs.Settings.{world_of, types_in}
use Rattle.typing_sound.proofs.Used.{term_used}
use Rattle.typing_sound.proofs.surroundings_laws.only_used_names_matter.Goals as goal

pub returns : goal.returns
returns c = λ p a b e t f h. term_used (world_of p) e (types_in (world_of p) a) (types_in (world_of p) b) (record { at = f }) t h
