use Rattle.std.proofs.Common.{◌≡◌, false, take}
use Rattle.std.specs.List.{list_any}
use Rattle.alias_cycles.specs.Cycles as spec
use Rattle.alias_cycles.proofs.marks.some_is.Given as goal

abbrev pub invariant-loop-ty : goal.invariant-loop-ty
invariant-loop-ty l = list_any (spec.is_alias l.alias) (take l.ty-index l.types) ≡ false
