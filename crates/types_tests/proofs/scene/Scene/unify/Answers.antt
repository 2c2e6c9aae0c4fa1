use Rattle.types_tests.proofs.Made.{unified}
use Rattle.types_tests.proofs.scene.Scene.unify.Goals as goal

pub invariant_of-self : goal.invariant_of-self
invariant_of-self c = unified c.unify.result c.self.inside.types _ _ _ _ c.self.inside.rests _ c.self.invariant c.unify.ensures.unified c.unify.ensures.unchanged c.new.ensures
