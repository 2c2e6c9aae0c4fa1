use Rattle.std.proofs.Common.{◌≡◌, drop}
use Rattle.std.specs.Prelude.{nat_le}
use Rattle.session_file.specs.Sessions as spec
use Rattle.session_file.proofs.bounds.are_short.Given as goal

-- those that are left decide, by the room that is left
abbrev pub invariant-loop-event : goal.invariant-loop-event
invariant-loop-event l =
    nat_le (spec.printed_size l.events) spec.max_printed ≡ nat_le (spec.printed_size (drop l.event-index l.events)) l.room
