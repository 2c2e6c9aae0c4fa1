use Rattle.type_schemes.proofs.Examples.{int_to_int, not_int_to_char, int_to_char}
use Rattle.type_schemes.proofs.cases.variables_have_one_type.Goals as goal

pub returns-clause-same : goal.returns-clause-same
returns-clause-same c = int_to_int

pub returns-clause-other : goal.returns-clause-other
returns-clause-other c = not_int_to_char

pub returns-clause-two : goal.returns-clause-two
returns-clause-two c = int_to_char
