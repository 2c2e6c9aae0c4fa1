use Rattle.std.proofs.Common.{◌≡◌, ◌++◌, map, take}
use Rattle.name_steps.specs.PatternNames.{joined, binds_of}
use Rattle.name_steps.proofs.patterns.+binds.Given as goal

abbrev pub invariant-push_all_binds-loop-tree : goal.invariant-push_all_binds-loop-tree
invariant-push_all_binds-loop-tree l = l.out ≡ l.fn.out ++ joined (map binds_of (take l.tree-index l.trees))
