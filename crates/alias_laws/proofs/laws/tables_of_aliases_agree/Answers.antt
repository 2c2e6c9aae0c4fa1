use Rattle.alias_laws.proofs.Agreeing.{same_aliases, same_plain, same_knows}
use Rattle.alias_laws.proofs.laws.tables_of_aliases_agree.Goals as goal

pub returns : goal.returns
returns c = record {
  aliases = same_aliases;
  types = λ types modules one two once first second. same_plain one two (same_aliases types modules one two once first second);
  known = λ types modules one two once first second. same_knows one two (same_aliases types modules one two once first second);
}
