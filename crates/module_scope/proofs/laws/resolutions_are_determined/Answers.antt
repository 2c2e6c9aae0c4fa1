use Rattle.module_scope.proofs.Determined.{one_resolution, never_both}
use Rattle.module_scope.proofs.laws.resolutions_are_determined.Goals as goal

pub returns : goal.returns
returns c = record {
  one = one_resolution;
  not_both = never_both;
}
