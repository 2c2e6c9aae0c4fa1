use Rattle.std.proofs.Common.{◌≡◌, ◌++◌, false, [], take}
use Rattle.module_names.specs.Flaws as spec
use Rattle.module_names.proofs.flaws.has_top.Given as goal

abbrev pub invariant-loop-top : goal.invariant-loop-top
invariant-loop-top l = spec.has_top (take l.top-index l.tops) l.name ≡ false
