use Rattle.alias_laws.proofs.Complete.{each_listed, all_known}
use Rattle.alias_laws.proofs.laws.aliases_without_fault_are_written_out.Goals as goal

pub returns : goal.returns
returns c = record {
  aliases = each_listed;
  types = all_known;
}
