use Rattle.typing_sound.proofs.TopsAdded.{no_values}
use Rattle.typing_sound.proofs.top_laws.the_first_group_needs_no_values.Goals as goal

pub returns : goal.returns
returns c = λ p stage e. no_values p stage e
