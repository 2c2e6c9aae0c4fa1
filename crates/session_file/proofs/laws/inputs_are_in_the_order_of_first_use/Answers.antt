use Rattle.session_file.proofs.OrderOfUse.{in_order_tells}
use Rattle.session_file.proofs.laws.inputs_are_in_the_order_of_first_use.Goals as goal

pub returns : goal.returns
returns c = in_order_tells
