use Rattle.std.proofs.Common.{◌<◌, ◌≤◌, length}
use Rattle.type_terms.specs.Terms.{nodes_of, LinksTo}
use Rattle.type_terms.specs.Depth.{weight}
use Rattle.type_terms.proofs.store.Store.find.Given as goal

abbrev pub invariant-loop-to : goal.invariant-loop-to
invariant-loop-to l = record {
  inside : l.end < length (nodes_of l.self);
  leads : LinksTo (nodes_of l.self) l.end l.fn.at;
  lighter : weight l.self l.end ≤ weight l.self l.fn.at;
}

abbrev pub decreases-loop-to : goal.decreases-loop-to
decreases-loop-to l = weight l.self l.end
