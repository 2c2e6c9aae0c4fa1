use Rattle.std.proofs.Common.{◌≡◌, Some, slice_get, sym}
use Rattle.types_tests.proofs.Made.{tail_found}
use Rattle.types_tests.proofs.scene.Scene.tail.Goals as goal

pub returns-in-Some-at : goal.returns-in-Some-at
returns-in-Some-at c =
    let found : slice_get c.self.inside.rests c.in-Some.place ≡ Some c.in-Some-at.found.now = rw (← c.as_slice.ensures) (sym c.in-Some-at.ensures) in
    rw (← c.self.view_is) (tail_found _ _ _ _ c.self.invariant.tails found)
