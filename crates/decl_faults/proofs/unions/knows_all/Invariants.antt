use Rattle.std.proofs.Common.{◌≡◌, take}
use Rattle.std.specs.List.{list_all}
use Rattle.type_names.specs.Answers.{places_of}
use Rattle.alias_expansion.specs.Expansion.{knows}
use Rattle.decl_faults.proofs.unions.knows_all.Given as goal

abbrev pub invariant-loop-tree : goal.invariant-loop-tree
invariant-loop-tree l = l.known ≡ list_all (knows l.aliases (places_of l.scope)) (take l.tree-index l.trees)
