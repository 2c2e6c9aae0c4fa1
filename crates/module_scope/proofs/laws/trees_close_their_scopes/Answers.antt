use Rattle.module_scope.proofs.WholeTrees.{expr_whole, declaration_whole}
use Rattle.module_scope.proofs.laws.trees_close_their_scopes.Goals as goal

pub returns-clause-expression : goal.returns-clause-expression
returns-clause-expression c = expr_whole

pub returns-clause-declaration : goal.returns-clause-declaration
returns-clause-declaration c = declaration_whole
