use Rattle.std.proofs.Common.{◌≡◌, ◌++◌, take, flat_map}
use Rattle.level_fixer.specs.ProjectLevels.{declares}
use Rattle.level_fixer.proofs.project.declare_all.Given as goal

-- what the declarations so far tell stands behind what was known before
abbrev pub invariant-loop-tree : goal.invariant-loop-tree
invariant-loop-tree l = l.levels.declared ≡ l.fn.levels.declared ++ flat_map declares (take l.tree-index l.trees)
