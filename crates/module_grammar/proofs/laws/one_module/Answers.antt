use Rattle.module_grammar.specs.Chunks.{chunks}
use Rattle.module_grammar.proofs.ModuleLaws as laws
use Rattle.module_grammar.proofs.laws.one_module.Goals as goal

pub returns : goal.returns
returns c = λ ts x y v w. laws.one_module (chunks ts) x y v w
