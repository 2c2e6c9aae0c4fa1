use Rattle.std.proofs.Common.{◌≡◌, ◌++◌, take}
use Rattle.top_names.specs.Names as spec
use Rattle.top_names.proofs.natives.push_natives.Given as goal

abbrev pub invariant-loop-home : goal.invariant-loop-home
invariant-loop-home l = l.out ≡ l.fn.out ++ spec.natives_in (take l.home-index l.modules)
