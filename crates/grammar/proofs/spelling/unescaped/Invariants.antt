use Rattle.std.proofs.Common.{◌≡◌, drop, false}
use Rattle.grammar.specs.Spelling as spec
use Rattle.grammar.proofs.spelling.unescaped.Given as goal

-- the bytes that are left stand behind those that were read
abbrev pub invariant-loop-byte : goal.invariant-loop-byte
invariant-loop-byte l = spec.unescaped false l.text ≡ spec.behind l.bytes.items (spec.unescaped l.escaped (drop l.byte-index l.text))
