use Rattle.plain_form.proofs.Forms.{of_constructor, of_operator_name, of_variable}
use Rattle.plain_form.proofs.names_laws.names_stand_for_their_things.Goals as goal

pub returns-clause-variable : goal.returns-clause-variable
returns-clause-variable c = λ n at name. of_variable n at name

pub returns-clause-constructor : goal.returns-clause-constructor
returns-clause-constructor c = λ n at name. of_constructor n at name

pub returns-clause-operator_name : goal.returns-clause-operator_name
returns-clause-operator_name c = λ n at name. of_operator_name n at name
