use Rattle.type_unify.proofs.types.Types.unify.Goals as goal

pub unify-requires-clause-apart : goal.unify-requires-clause-apart
unify-requires-clause-apart c = c.self.invariant 0

pub invariant_of-self : goal.invariant_of-self
invariant_of-self c = c.unify.ensures.grown.apart c.self.invariant
