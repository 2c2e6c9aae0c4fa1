use Rattle.operator_trees.proofs.Building.{clash_or_none}
use Rattle.operator_trees.proofs.laws.no_tree_where_operators_clash.Goals as goal

pub returns : goal.returns
returns c declared es os e = clash_or_none declared es os e
