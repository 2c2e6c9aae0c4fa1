use Rattle.std.proofs.Common.{◌≡◌, map, take}
use Rattle.case_check.specs.Asked as spec
use Rattle.case_check.specs.Trees.{wanted_of}
use Rattle.case_check.proofs.asked.+asked.Given as goal

abbrev pub invariant-forms_of-loop-pattern : goal.invariant-forms_of-loop-pattern
invariant-forms_of-loop-pattern l = map wanted_of l.forms ≡ map (spec.asked l.typed l.«module») (take l.pattern-index l.patterns)
