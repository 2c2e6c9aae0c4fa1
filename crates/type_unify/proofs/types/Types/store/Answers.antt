use Rattle.type_terms.proofs.Existence.{solution-exists}
use Rattle.type_unify.proofs.types.Types.store.Goals as goal

pub returns-clause-apart : goal.returns-clause-apart
returns-clause-apart c = rw (← c.self.view_is) (c.self.invariant 0)

pub returns-clause-solvable : goal.returns-clause-solvable
returns-clause-solvable c = rw (← c.self.view_is) (solution-exists _ _ c.stays_sound.ensures (c.self.invariant 0).rests)
