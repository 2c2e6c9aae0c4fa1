use Rattle.plain_form.proofs.Numbers.{defined_definition, defined_pattern_definition, of_access, of_binary, of_block, of_brackets, of_branches, of_call, of_choice, of_constructor, of_field_function, of_guards, of_lambda, of_list, of_negate, of_range, of_tuple, of_tuple_maker, of_variable}
use Rattle.plain_form.proofs.numbering_laws.binders_stand_in_parts.Goals as goal

pub returns-clause-binary : goal.returns-clause-binary
returns-clause-binary c = λ n at operator x y. of_binary n at operator x y

pub returns-clause-negate : goal.returns-clause-negate
returns-clause-negate c = λ n at x. of_negate n at x

pub returns-clause-call : goal.returns-clause-call
returns-clause-call c = λ n at f xs. of_call n at f xs

pub returns-clause-variable : goal.returns-clause-variable
returns-clause-variable c = λ n at name. of_variable n at name

pub returns-clause-constructor : goal.returns-clause-constructor
returns-clause-constructor c = λ n at name. of_constructor n at name

pub returns-clause-field_function : goal.returns-clause-field_function
returns-clause-field_function c = λ n at label. of_field_function n at label

pub returns-clause-access : goal.returns-clause-access
returns-clause-access c = λ n at x label. of_access n at x label

pub returns-clause-tuple_maker : goal.returns-clause-tuple_maker
returns-clause-tuple_maker c = λ n at parts. of_tuple_maker n at parts

pub returns-clause-brackets : goal.returns-clause-brackets
returns-clause-brackets c = λ n at x. of_brackets n at x

pub returns-clause-tuple : goal.returns-clause-tuple
returns-clause-tuple c = λ n at xs. of_tuple n at xs

pub returns-clause-list : goal.returns-clause-list
returns-clause-list c = λ n at xs. of_list n at xs

pub returns-clause-range : goal.returns-clause-range
returns-clause-range c = λ n at x y. of_range n at x y

pub returns-clause-lambda : goal.returns-clause-lambda
returns-clause-lambda c = λ n at ps x. of_lambda n at ps x

pub returns-clause-choice : goal.returns-clause-choice
returns-clause-choice c = λ n at x y z. of_choice n at x y z

pub returns-clause-guards : goal.returns-clause-guards
returns-clause-guards c = λ n at bs. of_guards n at bs

pub returns-clause-block : goal.returns-clause-block
returns-clause-block c = λ n at ds x. of_block n at ds x

pub returns-clause-branches : goal.returns-clause-branches
returns-clause-branches c = λ n at x bs. of_branches n at x bs

pub returns-clause-definition : goal.returns-clause-definition
returns-clause-definition c = λ n at name ps x. defined_definition n at name ps x

pub returns-clause-pattern_definition : goal.returns-clause-pattern_definition
returns-clause-pattern_definition c = λ n at p x. defined_pattern_definition n at p x
