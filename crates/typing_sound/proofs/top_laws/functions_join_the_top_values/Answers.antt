use Rattle.typing_sound.proofs.TopsAdded.{functions_join}
use Rattle.typing_sound.proofs.top_laws.functions_join_the_top_values.Goals as goal

pub returns : goal.returns
returns c = λ p ds tops vs stage b k T f. functions_join p ds tops vs stage b k T f
