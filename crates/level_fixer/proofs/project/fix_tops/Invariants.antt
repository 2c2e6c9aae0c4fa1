use Rattle.std.proofs.Common.{length}
use Rattle.level_fixer.specs.FixedTrees.{fixed_declaration}
use Rattle.level_fixer.specs.ProjectLevels.{declaration_fault}
use Rattle.level_fixer.proofs.Waiting.{Passing}
use Rattle.level_fixer.proofs.project.fix_tops.Given as goal

-- those done and those that wait
abbrev pub invariant-turns : goal.invariant-turns
invariant-turns l = Passing (declaration_fault l.levels.declared l.home) (fixed_declaration l.levels.declared) l.fn.declarations l.declarations l.waiting

abbrev pub decreases-turns : goal.decreases-turns
decreases-turns l = length l.waiting
