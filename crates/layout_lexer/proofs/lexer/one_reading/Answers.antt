use Rattle.layout_lexer.proofs.Laws.{one_or_other, one_list, one_fault, not_both}
use Rattle.layout_lexer.proofs.Families.{longest_of_all}
use Rattle.layout_lexer.proofs.lexer.one_reading.Goals as goal

pub returns-clause-some : goal.returns-clause-some
returns-clause-some c = one_or_other

pub returns-clause-one_list : goal.returns-clause-one_list
returns-clause-one_list c = one_list

pub returns-clause-one_fault : goal.returns-clause-one_fault
returns-clause-one_fault c = one_fault

pub returns-clause-not_both : goal.returns-clause-not_both
returns-clause-not_both c = not_both

pub returns-clause-longest : goal.returns-clause-longest
returns-clause-longest c joined text kind s other stands front spelling = longest_of_all joined text kind s other front spelling stands
