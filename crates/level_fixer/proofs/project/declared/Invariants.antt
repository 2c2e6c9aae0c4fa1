use Rattle.std.proofs.Common.{◌≡◌, take, flat_map}
use Rattle.level_fixer.specs.ProjectLevels.{declares}
use Rattle.level_fixer.proofs.project.declared.Given as goal

-- what the modules so far declare
abbrev pub invariant-loop-tree : goal.invariant-loop-tree
invariant-loop-tree l = l.levels.declared ≡ flat_map (λ m. flat_map declares m.declarations) (take l.tree-index l.modules)
