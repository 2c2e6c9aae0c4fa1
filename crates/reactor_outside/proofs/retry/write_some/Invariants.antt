use Rattle.std.specs.Io.KnownBytes.{Keeps}
use Rattle.reactor_outside.proofs.retry.write_some.Given as goal

-- no byte was written so far
abbrev pub invariant-loop : goal.invariant-loop
invariant-loop g l = Keeps (g.W.Write.contents l.fn.writer) (g.W.Write.contents l.writer)
