use Rattle.std.proofs.Common.{◌≡◌, drop}
use Rattle.grammar.specs.Spelling.{number, number_after}
use Rattle.grammar.proofs.spelling.number.Given as goal

-- the digits that are left stand behind the number so far
abbrev pub invariant-loop-digit : goal.invariant-loop-digit
invariant-loop-digit l = number l.text ≡ number_after l.number (drop l.digit-index l.text)
