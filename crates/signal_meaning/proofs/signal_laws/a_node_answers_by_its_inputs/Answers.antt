use Rattle.signal_meaning.proofs.InTurn.{later_answer}
use Rattle.signal_meaning.proofs.signal_laws.a_node_answers_by_its_inputs.Goals as goal

pub returns : goal.returns
returns c = later_answer
