use Rattle.type_terms.specs.Terms.{nodes_of, Each}
use Rattle.type_unify.specs.Rests.{IsType}
use Rattle.types_tests.proofs.scene.Scene.terms.Given as goal

abbrev pub invariant-loop-place : goal.invariant-loop-place
invariant-loop-place l = Each (IsType (nodes_of l.fn.self)) l.found
