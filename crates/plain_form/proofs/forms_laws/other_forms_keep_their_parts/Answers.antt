use Rattle.plain_form.proofs.Forms.{of_access, of_brackets, of_branches, of_char, of_choice, of_guards, of_int, of_list, of_range, of_text, of_tuple, of_unit}
use Rattle.plain_form.proofs.forms_laws.other_forms_keep_their_parts.Goals as goal

pub returns-clause-brackets : goal.returns-clause-brackets
returns-clause-brackets c = λ n at x. of_brackets n at x

pub returns-clause-int : goal.returns-clause-int
returns-clause-int c = λ n at value. of_int n at value

pub returns-clause-char : goal.returns-clause-char
returns-clause-char c = λ n at value. of_char n at value

pub returns-clause-text : goal.returns-clause-text
returns-clause-text c = λ n at value. of_text n at value

pub returns-clause-unit : goal.returns-clause-unit
returns-clause-unit c = λ n at. of_unit n at

pub returns-clause-tuple : goal.returns-clause-tuple
returns-clause-tuple c = λ n at xs. of_tuple n at xs

pub returns-clause-list : goal.returns-clause-list
returns-clause-list c = λ n at xs. of_list n at xs

pub returns-clause-range : goal.returns-clause-range
returns-clause-range c = λ n at x y. of_range n at x y

pub returns-clause-access : goal.returns-clause-access
returns-clause-access c = λ n at x label. of_access n at x label

pub returns-clause-choice : goal.returns-clause-choice
returns-clause-choice c = λ n at x y z. of_choice n at x y z

pub returns-clause-guards : goal.returns-clause-guards
returns-clause-guards c = λ n at bs. of_guards n at bs

pub returns-clause-branches : goal.returns-clause-branches
returns-clause-branches c = λ n at x bs. of_branches n at x bs
