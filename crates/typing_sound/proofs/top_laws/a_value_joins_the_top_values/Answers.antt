use Rattle.typing_sound.proofs.TopsAdded.{value_joins}
use Rattle.typing_sound.proofs.top_laws.a_value_joins_the_top_values.Goals as goal

pub returns : goal.returns
returns c = λ p d tops stage fuel v s types b k f T h e. value_joins p d tops stage fuel v s types b k f T h e
