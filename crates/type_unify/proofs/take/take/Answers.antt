use Rattle.type_unify.proofs.Taking.{binds_heavier, can_is}
use Rattle.type_unify.proofs.take.take.Goals as goal

pub bind-requires-clause-heavier : goal.bind-requires-clause-heavier
bind-requires-clause-heavier c = λ s h stands. binds_heavier _ _ _ (can_is _ _ _ c.in-Binds.is c.requires.can) s h stands
