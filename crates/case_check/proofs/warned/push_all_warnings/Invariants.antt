use Rattle.std.proofs.Common.{◌≡◌, ◌++◌, take}
use Rattle.case_check.specs.Warnings as spec
use Rattle.case_check.proofs.warned.push_all_warnings.Given as goal

abbrev pub invariant-loop-place : goal.invariant-loop-place
invariant-loop-place l = l.out.items ≡ l.fn.out.items ++ spec.warnings_at l.typed l.«module» (take l.place-index l.places)
