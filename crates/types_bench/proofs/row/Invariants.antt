use Rattle.type_unify.specs.Rests.{IsType}
use Rattle.type_terms.specs.Terms.{nodes_of, terms_of, Each}
use Rattle.types_bench.proofs.row.Given as goal

abbrev pub invariant-loop-number : goal.invariant-loop-number
invariant-loop-number l = Each (IsType (nodes_of l.fn.types)) (terms_of l.fields)
