use Rattle.std.proofs.Common.{◌≡◌, length}
use Rattle.std.specs.Io.KnownBytes.{Keeps}
use Rattle.reactor_outside.proofs.retry.read_some.Given as goal

-- no byte was read so far
abbrev pub invariant-loop : goal.invariant-loop
invariant-loop g l = (length l.into ≡ length l.fn.into) × Keeps (g.R.Read.remaining l.fn.reader) (g.R.Read.remaining l.reader)
