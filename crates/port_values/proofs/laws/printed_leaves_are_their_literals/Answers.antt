use Rattle.port_values.proofs.LeafLaws.{int_is, text_is, truth_is}
use Rattle.port_values.proofs.laws.printed_leaves_are_their_literals.Goals as goal

pub returns-clause-ints : goal.returns-clause-ints
returns-clause-ints c = int_is

pub returns-clause-texts : goal.returns-clause-texts
returns-clause-texts c = text_is

pub returns-clause-truths : goal.returns-clause-truths
returns-clause-truths c = truth_is
