use Rattle.level_fixer.proofs.Chains.{has_one}
use Rattle.level_fixer.proofs.laws.a_chain_stands_for_its_tree.Goals as goal

pub returns : goal.returns
returns c declared at es os h = has_one declared at es os h
