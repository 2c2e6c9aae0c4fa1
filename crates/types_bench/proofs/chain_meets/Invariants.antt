use Rattle.type_unify.specs.Rests.{IsType}
use Rattle.type_terms.specs.Terms.{nodes_of}
use Rattle.types_bench.proofs.chain_meets.Given as goal

abbrev pub invariant-loop : goal.invariant-loop
invariant-loop l = record {
  first : IsType (nodes_of l.types) l.first;
  last : IsType (nodes_of l.types) l.last;
}
