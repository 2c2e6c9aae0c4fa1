use Rattle.type_terms.specs.Terms.{nodes_of}
use Rattle.types_tests.proofs.Example.{example-solved}
use Rattle.types_tests.proofs.terms.a_link_leads_to_its_end.Goals as goal

pub link-requires-clause-solvable : goal.link-requires-clause-solvable
link-requires-clause-solvable g c = example-solved (nodes_of c.in_ok-store.store) c.in_ok-store.ensures
