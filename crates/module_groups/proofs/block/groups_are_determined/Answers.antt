use Rattle.std.proofs.Common.{[]}
use Rattle.module_groups.proofs.Following.{exactly_together, same_following}
use Rattle.module_groups.proofs.block.groups_are_determined.Goals as goal

pub returns : goal.returns
returns c = record {
  exact = exactly_together;
  one_order = λ count refers groups others. same_following count refers [] groups others;
}
