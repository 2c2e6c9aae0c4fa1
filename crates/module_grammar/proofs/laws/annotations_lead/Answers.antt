use Rattle.module_grammar.specs.Chunks.{chunks}
use Rattle.module_grammar.proofs.StandLaws as laws
use Rattle.module_grammar.proofs.laws.annotations_lead.Goals as goal

pub returns : goal.returns
returns c = λ ts x w. laws.annotations_lead (chunks ts) x w
