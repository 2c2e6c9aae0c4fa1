use Rattle.type_decls.proofs.Determined.{one_list, never_both}
use Rattle.type_decls.proofs.laws.declarations_are_determined.Goals as goal

pub returns : goal.returns
returns c = record {
  one = one_list;
  not_both = never_both;
}
