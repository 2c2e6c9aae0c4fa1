use Rattle.std.proofs.Common.{take}
use Rattle.case_check.specs.Warnings as spec
use Rattle.case_check.proofs.warned.warnings.Given as goal

abbrev pub invariant-loop-module : goal.invariant-loop-module
invariant-loop-module l = spec.AreWarningsOf l.typed (take l.module-index l.typed.resolved.project.modules) l.found
