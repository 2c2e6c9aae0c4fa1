use Rattle.std.proofs.Common.{take}
use Rattle.type_schemes.specs.Copies.{AreCopied}
use Rattle.type_schemes.proofs.copying.copy_parts.Given as goal

abbrev pub invariant-loop-part : goal.invariant-loop-part
invariant-loop-part l = AreCopied l.fn.conditions l.conditions (take l.part-index l.parts) l.table
