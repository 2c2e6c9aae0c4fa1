use Rattle.plain_form.proofs.Forms.{defined_definition, of_field_function, of_lambda, of_tuple_maker}
use Rattle.plain_form.proofs.functions_laws.functions_have_one_parameter_each.Goals as goal

pub returns-clause-lambda : goal.returns-clause-lambda
returns-clause-lambda c = λ n at ps x. of_lambda n at ps x

pub returns-clause-field_function : goal.returns-clause-field_function
returns-clause-field_function c = λ n at label. of_field_function n at label

pub returns-clause-tuple_maker : goal.returns-clause-tuple_maker
returns-clause-tuple_maker c = λ n at parts. of_tuple_maker n at parts

pub returns-clause-definition : goal.returns-clause-definition
returns-clause-definition c = λ n at name ps x. defined_definition n at name ps x
