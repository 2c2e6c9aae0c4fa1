use Rattle.std.proofs.Common.{◌≡◌, map, take}
use Rattle.type_schemes.specs.Copies.{term_at}
use Rattle.type_schemes.proofs.copying.terms_at.Given as goal

abbrev pub invariant-loop-part : goal.invariant-loop-part
invariant-loop-part l = l.terms ≡ map (term_at l.table) (take l.part-index l.parts)
