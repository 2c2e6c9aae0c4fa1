use Rattle.types_bench.proofs.rows_meet.Goals as goal

pub unify-requires-clause-first : goal.unify-requires-clause-first
unify-requires-clause-first c = c.in_ok-falling.ensures.keeps.types _ c.in_ok-rising.ensures.is_type
