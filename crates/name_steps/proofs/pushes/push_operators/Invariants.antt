use Rattle.std.proofs.Common.{◌≡◌, map, take}
use Rattle.name_steps.specs.PatternNames.{spot_of}
use Rattle.name_steps.proofs.pushes.push_operators.Given as goal

abbrev pub invariant-loop-operator : goal.invariant-loop-operator
invariant-loop-operator l = l.spots ≡ map (λ operator. spot_of operator.at operator.name) (take l.operator-index l.operators)
