use Rattle.std.proofs.Common.{take}
use Rattle.type_schemes.specs.Copies.{RestrictsSorts}
use Rattle.type_schemes.proofs.copying.copy_notes.Given as goal

abbrev pub invariant-loop-below : goal.invariant-loop-below
invariant-loop-below l = RestrictsSorts l.table l.fn.conditions l.conditions (take l.below-index l.notes)
