use Rattle.schemes_tests.proofs.uses.use_as.Goals as goal

pub make-requires-clause-parts : goal.make-requires-clause-parts
make-requires-clause-parts c = (c.in_ok-to.ensures.grows.types _ c.in_ok-from.ensures.is_type, (c.in_ok-to.ensures.is_type, tt))

pub equate-requires-clause-second : goal.equate-requires-clause-second
equate-requires-clause-second c = c.in_ok-copied.ensures.adds.grows.types _ c.in_ok-function.ensures.adds.is_type
