use Rattle.std.proofs.Common.{sym, subst}
use Rattle.type_unify.specs.declared.rows.Tail.{Tail}
use Rattle.type_unify.specs.Steps.{IsTail, Decides}
use Rattle.type_unify.proofs.Deciding.{decides_swapped, disjoint_swap}
use Rattle.type_unify.proofs.step.decide.Goals as goal

pub returns-in_default-Open : goal.returns-in_default-Open
returns-in_default-Open c = λ nodes can.
    decides_swapped nodes _ _ _ _ _
    (subst (λ (t : Tail). Decides nodes c.args.right t c.args.left c.args.first c.extend-in_default-Open.result) (sym c.in_default-Open.is-1)
    (c.extend-in_default-Open.ensures nodes (record {
      apart = disjoint_swap _ _ can.apart;
      left_tail = subst (IsTail nodes) c.in_default-Open.is-1 can.right_tail;
      right_tail = can.left_tail;
      left_types = can.right_types;
      right_types = can.left_types;
    })))
