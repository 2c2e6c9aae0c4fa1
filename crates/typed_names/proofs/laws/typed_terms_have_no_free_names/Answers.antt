use Rattle.typing_sound.specs.Settings.{world_of}
use Rattle.typed_names.proofs.Named.{closed}
use Rattle.typed_names.proofs.laws.typed_terms_have_no_free_names.Goals as goal

pub returns : goal.returns
returns c = λ p e t h. closed (world_of p) e t h
