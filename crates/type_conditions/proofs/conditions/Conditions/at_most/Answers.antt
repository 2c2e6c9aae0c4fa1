use Rattle.type_conditions.proofs.Growing.{noted, on_ok}
use Rattle.type_conditions.proofs.conditions.Conditions.at_most.Goals as goal

pub returns-clause-restricts : goal.returns-clause-restricts
returns-clause-restricts c = rw (← c.self.view_is) (on_ok _ _ _ (noted _ _ _ _ _) c.sort_below.ensures.state)
