use Rattle.level_fixer.proofs.Chains.{none_told, tells_none}
use Rattle.level_fixer.proofs.laws.a_chain_without_a_tree.Goals as goal

pub returns : goal.returns
returns c declared es os = (tells_none declared es os, none_told declared es os)
