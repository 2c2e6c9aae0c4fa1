use Rattle.types_tests.proofs.sorts.meet.Goals as goal

pub sorts-requires : goal.sorts-requires
sorts-requires c = record { solvable = c.store.ensures.solvable }
