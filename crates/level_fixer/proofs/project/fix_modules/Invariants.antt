use Rattle.std.proofs.Common.{length}
use Rattle.level_fixer.specs.FixedTrees.{fixed_module}
use Rattle.level_fixer.specs.ProjectLevels.{module_fault}
use Rattle.level_fixer.proofs.Waiting.{Passing}
use Rattle.level_fixer.proofs.project.fix_modules.Given as goal

-- those done and those that wait
abbrev pub invariant-turns : goal.invariant-turns
invariant-turns l = Passing (module_fault l.levels.declared) (fixed_module l.levels.declared) l.fn.modules l.modules l.waiting

abbrev pub decreases-turns : goal.decreases-turns
decreases-turns l = length l.waiting
