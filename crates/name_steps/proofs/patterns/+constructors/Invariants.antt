use Rattle.std.proofs.Common.{◌≡◌, ◌++◌, map, take}
use Rattle.name_steps.specs.PatternNames.{joined, constructors_of}
use Rattle.name_steps.proofs.patterns.+constructors.Given as goal

abbrev pub invariant-push_all_constructors-loop-tree : goal.invariant-push_all_constructors-loop-tree
invariant-push_all_constructors-loop-tree l = l.out ≡ l.fn.out ++ joined (map constructors_of (take l.tree-index l.trees))
