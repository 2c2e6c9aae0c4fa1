use Rattle.instances_tests.proofs.meeting.meet.Goals as goal

pub equate-requires-clause-first : goal.equate-requires-clause-first
equate-requires-clause-first c = c.in_ok-second.ensures.grows.types _ c.in_ok-first.ensures.is_type
