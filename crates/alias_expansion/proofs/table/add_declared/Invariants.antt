use Rattle.std.proofs.Common.{◌≡◌, length}
use Rattle.type_names.specs.Answers.{places_of}
use Rattle.alias_expansion.specs.Table as spec
use Rattle.alias_expansion.proofs.table.add_declared.Given as goal

-- what is left, from here on, adds what all add
abbrev pub invariant-loop-left : goal.invariant-loop-left
invariant-loop-left l = spec.walked (places_of l.scope) l.out l.left ≡ spec.walked (places_of l.scope) l.fn.out l.declarations

abbrev pub decreases-loop-left : goal.decreases-loop-left
decreases-loop-left l = length l.left
