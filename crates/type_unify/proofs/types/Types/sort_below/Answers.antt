use Rattle.type_unify.proofs.Narrowing.{each_noted}
use Rattle.type_unify.proofs.types.Types.sort_below.Goals as goal

pub invariant_of-self : goal.invariant_of-self
invariant_of-self c = each_noted c.sort_below.result _ c.self.inside.store c.args.a c.args.b c.sort_below.ensures.state c.sort_below.ensures.refused c.self.invariant
