use Rattle.text_trees.proofs.Worked.{access_tokens, access_is_cut, access_derives, argument_tokens, argument_is_cut, argument_derives, arrow_tokens, arrow_is_cut, arrow_derives, cons_tokens, cons_is_cut, cons_derives}
use Rattle.text_trees.proofs.laws.worked_texts.Goals as goal

pub returns-clause-arrow : goal.returns-clause-arrow
returns-clause-arrow c = (arrow_tokens, arrow_is_cut, arrow_derives)

pub returns-clause-cons : goal.returns-clause-cons
returns-clause-cons c = (cons_tokens, cons_is_cut, cons_derives)

pub returns-clause-access : goal.returns-clause-access
returns-clause-access c = (access_tokens, access_is_cut, access_derives)

pub returns-clause-argument : goal.returns-clause-argument
returns-clause-argument c = (argument_tokens, argument_is_cut, argument_derives)
