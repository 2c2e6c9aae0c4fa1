use Rattle.module_scope.proofs.Walking.{looked_up}
use Rattle.module_scope.proofs.laws.names_are_looked_up_in_open_scopes.Goals as goal

pub returns : goal.returns
returns c = looked_up
