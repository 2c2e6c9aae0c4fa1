use Rattle.plain_form.proofs.Numbers.{pattern_anything, pattern_brackets, pattern_cons, pattern_labels, pattern_list, pattern_made, pattern_name, pattern_named, pattern_tuple}
use Rattle.plain_form.proofs.numbering_laws.names_of_patterns_are_binders.Goals as goal

pub returns-clause-anything : goal.returns-clause-anything
returns-clause-anything c = λ at. pattern_anything at

pub returns-clause-name : goal.returns-clause-name
returns-clause-name c = λ at name. pattern_name at name

pub returns-clause-made : goal.returns-clause-made
returns-clause-made c = λ at constructor ps. pattern_made at constructor ps

pub returns-clause-cons : goal.returns-clause-cons
returns-clause-cons c = λ at head tail. pattern_cons at head tail

pub returns-clause-list : goal.returns-clause-list
returns-clause-list c = λ at ps. pattern_list at ps

pub returns-clause-tuple : goal.returns-clause-tuple
returns-clause-tuple c = λ at ps. pattern_tuple at ps

pub returns-clause-labels : goal.returns-clause-labels
returns-clause-labels c = λ at labels. pattern_labels at labels

pub returns-clause-brackets : goal.returns-clause-brackets
returns-clause-brackets c = λ at inner. pattern_brackets at inner

pub returns-clause-named : goal.returns-clause-named
returns-clause-named c = λ at inner name. pattern_named at inner name
