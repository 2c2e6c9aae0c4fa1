use Rattle.level_fixer.proofs.Chains.{of_tree}
use Rattle.level_fixer.proofs.laws.a_chain_has_no_other_tree.Goals as goal

pub returns : goal.returns
returns c declared at es os tree h = of_tree declared at es os tree h
