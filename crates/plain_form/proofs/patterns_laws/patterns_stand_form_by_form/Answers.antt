use Rattle.plain_form.proofs.Forms.{pattern_anything, pattern_brackets, pattern_char, pattern_cons, pattern_int, pattern_labels, pattern_list, pattern_made, pattern_name, pattern_named, pattern_text, pattern_tuple, pattern_unit}
use Rattle.plain_form.proofs.patterns_laws.patterns_stand_form_by_form.Goals as goal

pub returns-clause-anything : goal.returns-clause-anything
returns-clause-anything c = λ n at. pattern_anything n at

pub returns-clause-name : goal.returns-clause-name
returns-clause-name c = λ n at name. pattern_name n at name

pub returns-clause-int : goal.returns-clause-int
returns-clause-int c = λ n at value. pattern_int n at value

pub returns-clause-char : goal.returns-clause-char
returns-clause-char c = λ n at value. pattern_char n at value

pub returns-clause-text : goal.returns-clause-text
returns-clause-text c = λ n at value. pattern_text n at value

pub returns-clause-unit : goal.returns-clause-unit
returns-clause-unit c = λ n at. pattern_unit n at

pub returns-clause-made : goal.returns-clause-made
returns-clause-made c = λ n at constructor ps. pattern_made n at constructor ps

pub returns-clause-cons : goal.returns-clause-cons
returns-clause-cons c = λ n at head tail. pattern_cons n at head tail

pub returns-clause-list : goal.returns-clause-list
returns-clause-list c = λ n at ps. pattern_list n at ps

pub returns-clause-tuple : goal.returns-clause-tuple
returns-clause-tuple c = λ n at ps. pattern_tuple n at ps

pub returns-clause-labels : goal.returns-clause-labels
returns-clause-labels c = λ n at labels. pattern_labels n at labels

pub returns-clause-brackets : goal.returns-clause-brackets
returns-clause-brackets c = λ n at inner. pattern_brackets n at inner

pub returns-clause-named : goal.returns-clause-named
returns-clause-named c = λ n at inner name. pattern_named n at inner name
