use Rattle.rules_tests.proofs.scene.typed.Goals as goal

pub made-requires-clause-first : goal.made-requires-clause-first
made-requires-clause-first c = c.in_ok-two.ensures.grows.types _ c.in_ok-one.ensures.is_type

pub equate-requires-clause-first : goal.equate-requires-clause-first
equate-requires-clause-first c = c.in_ok-wanted.ensures.grows.types _ c.in_ok-whole.ensures
