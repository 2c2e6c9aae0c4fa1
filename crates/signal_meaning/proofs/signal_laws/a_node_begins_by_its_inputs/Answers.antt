use Rattle.signal_meaning.proofs.InTurn.{first_answer}
use Rattle.signal_meaning.proofs.signal_laws.a_node_begins_by_its_inputs.Goals as goal

pub returns : goal.returns
returns c = first_answer
