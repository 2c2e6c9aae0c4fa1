use Rattle.std.proofs.Common.{◌≡◌, take}
use Rattle.type_schemes.specs.Copies.{fields_over, term_at}
use Rattle.type_schemes.proofs.copying.fields_at.Given as goal

abbrev pub invariant-loop-label : goal.invariant-loop-label
invariant-loop-label l = l.made ≡ fields_over (term_at l.table) (take l.label-index l.fields)
