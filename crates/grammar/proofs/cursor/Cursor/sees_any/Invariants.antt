use Rattle.std.proofs.Common.{◌≡◌, length}
use Rattle.grammar.specs.Terminals.{starts}
use Rattle.grammar.proofs.cursor.Cursor.sees_any.Given as goal

-- the terminals that are left decide
abbrev pub invariant-terminals : goal.invariant-terminals
invariant-terminals l = starts l.fn.set l.self ≡ starts l.rest l.self

abbrev pub decreases-terminals : goal.decreases-terminals
decreases-terminals l = length l.rest
