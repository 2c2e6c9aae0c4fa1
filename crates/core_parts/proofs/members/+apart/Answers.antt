use Rattle.core_parts.proofs.Apart.{no_call, no_let}
use Rattle.core_parts.proofs.members.+apart.Goals as goal

pub returns-in-Call : goal.returns-in-Call
returns-in-Call t c = no_call _ _ _ _ c.in-Call.is c.is_empty.ensures c.if-is_empty.false

pub returns-in-Let : goal.returns-in-Let
returns-in-Let t c = no_let _ _ _ _ c.in-Let.is c.is_empty-in-Let.ensures c.if-is_empty-2.false
