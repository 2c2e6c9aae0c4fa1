use Rattle.std.proofs.Common.{◌≡◌, ◌≤◌, ◌-◌, length, take}
use Rattle.reactor_outside.specs.Sink.{with_bytes}
use Rattle.reactor_outside.proofs.sink.put.Given as goal

-- the sink took the bytes so far, and has not failed
abbrev pub invariant-loop-at : goal.invariant-loop-at
invariant-loop-at g l = record {
  within : l.at ≤ length l.bytes;
  took : g.K.Sink.taken l.sink ≡ with_bytes (take l.at l.bytes) (g.K.Sink.taken l.fn.sink);
  count : g.K.Sink.faults l.sink ≡ g.K.Sink.faults l.fn.sink;
}

abbrev pub decreases-loop-at : goal.decreases-loop-at
decreases-loop-at g l = length l.bytes - l.at
