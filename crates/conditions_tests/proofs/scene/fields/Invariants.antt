use Rattle.type_terms.specs.Terms.{terms_of, Each}
use Rattle.type_unify.specs.Rests.{IsType}
use Rattle.type_conditions.specs.Conditions.{terms_in}
use Rattle.conditions_tests.proofs.scene.fields.Given as goal

abbrev pub invariant-loop-label : goal.invariant-loop-label
invariant-loop-label l = Each (IsType (terms_in l.fn.scene.conditions)) (terms_of l.found)
