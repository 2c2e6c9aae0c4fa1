use Rattle.std.proofs.Common.{ne_eqb}
use Rattle.grammar.proofs.SpellingLaws.{behind_one}
use Rattle.grammar.proofs.spelling.put.Goals as goal

pub returns-in_ok-push-in-Some : goal.returns-in_ok-push-in-Some
returns-in_ok-push-in-Some c rest = rw (c.if-escaped.true, ← c.in-Some.ensures, c.in_ok-push-in-Some.ensures.items) (behind_one _ _ _)

pub returns : goal.returns
returns c rest = rw (c.if-escaped.false, ne_eqb c.args.byte 92 c.if-byte-eq92.false, c.in_ok-push.ensures.items) (behind_one _ _ _)
