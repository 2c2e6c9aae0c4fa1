use Rattle.type_terms.specs.Terms.{Each}
use Rattle.type_unify.specs.Rests.{IsType}
use Rattle.type_conditions.specs.Conditions.{terms_in}
use Rattle.conditions_tests.proofs.scene.terms.Given as goal

abbrev pub invariant-loop-place : goal.invariant-loop-place
invariant-loop-place l = Each (IsType (terms_in l.fn.scene.conditions)) l.found
