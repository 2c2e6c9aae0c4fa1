use Rattle.std.proofs.Common.{◌≡◌, take}
use Rattle.plain_form.specs.Numbering.{both}
use Rattle.core_names.specs.Binding as spec
use Rattle.core_names.proofs.walk.+patterns.Given as goal

abbrev pub invariant-push_patterns-loop-pattern : goal.invariant-push_patterns-loop-pattern
invariant-push_patterns-loop-pattern l = spec.listed l.out ≡ both (spec.listed l.fn.out) (spec.of_patterns (take l.pattern-index l.patterns))
