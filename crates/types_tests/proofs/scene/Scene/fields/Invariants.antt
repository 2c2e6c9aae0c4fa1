use Rattle.type_terms.specs.Terms.{nodes_of, terms_of, Each}
use Rattle.type_unify.specs.Rests.{IsType}
use Rattle.types_tests.proofs.scene.Scene.fields.Given as goal

abbrev pub invariant-loop-label : goal.invariant-loop-label
invariant-loop-label l = Each (IsType (nodes_of l.fn.self)) (terms_of l.found)
