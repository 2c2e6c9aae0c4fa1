use Rattle.type_unify.proofs.Building.{none_apart}
use Rattle.type_unify.proofs.types.Types.new.Goals as goal

pub invariant_of-result : goal.invariant_of-result
invariant_of-result c = none_apart _ c.in_ok-store.ensures
