use Rattle.module_grammar.proofs.DeclarationLaws as laws
use Rattle.module_grammar.proofs.laws.one_declaration.Goals as goal

pub returns : goal.returns
returns c = laws.one_declaration
