use Rattle.types_tests.proofs.scene.Scene.store.Goals as goal

pub returns-clause-solvable : goal.returns-clause-solvable
returns-clause-solvable c = rw c.store.ensures.store c.store.ensures.solvable
