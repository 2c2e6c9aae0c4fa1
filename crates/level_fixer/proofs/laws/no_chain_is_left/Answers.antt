use Rattle.level_fixer.proofs.FreeLaws.{project_free}
use Rattle.level_fixer.proofs.laws.no_chain_is_left.Goals as goal

pub returns : goal.returns
returns c = project_free
