use Rattle.type_unify.proofs.Asking.{demands_both}
use Rattle.type_unify.proofs.flags.demands.Goals as goal

pub returns-in_ok-append-in-Both-clause-found : goal.returns-in_ok-append-in-Both-clause-found
returns-in_ok-append-in-Both-clause-found c = demands_both _ _ _ _ _ _ c.in-Both.is c.in_ok-found-in-Both.ensures.found c.in_ok-joining_demands-in-Both.ensures.found c.in_ok-append-in-Both.ensures
