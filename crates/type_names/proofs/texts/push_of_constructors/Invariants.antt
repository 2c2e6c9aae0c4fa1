use Rattle.std.proofs.Common.{◌≡◌, ◌++◌, take}
use Rattle.type_names.specs.Answers.{places_of}
use Rattle.type_names.specs.Texts as spec
use Rattle.type_names.proofs.texts.push_of_constructors.Given as goal

abbrev pub invariant-loop-constructor : goal.invariant-loop-constructor
invariant-loop-constructor l =
    l.out ≡ l.fn.out ++ spec.flaws_of_constructors (places_of l.scope) l.parameters (take l.constructor-index l.constructors)
