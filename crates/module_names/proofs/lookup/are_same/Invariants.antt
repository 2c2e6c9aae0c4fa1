use Rattle.std.proofs.Common.{◌≡◌, true, take}
use Rattle.std.specs.List.{list_all}
use Rattle.module_names.specs.Lookup as spec
use Rattle.module_names.proofs.lookup.are_same.Given as goal

abbrev pub invariant-loop-other : goal.invariant-loop-other
invariant-loop-other l = list_all (λ other. spec.is_same l.first other) (take l.other-index l.more) ≡ true
