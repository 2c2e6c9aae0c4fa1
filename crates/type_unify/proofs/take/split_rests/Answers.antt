use Rattle.std.proofs.Common.{◌≡◌, ◌∙◌, Err, ap}
use Rattle.elm_base.specs.declared.memory.Halt.TheVariants.{Because}
use Rattle.type_unify.proofs.Narrowing.{ok_map, grown_through}
use Rattle.type_unify.proofs.Taking.{can_extend_after, splits_taken, splits_refused_first, splits_refused_second}
use Rattle.type_unify.proofs.take.split_rests.Goals as goal

pub extend_rest-requires-clause-can : goal.extend_rest-requires-clause-can
extend_rest-requires-clause-can c = can_extend_after _ _ _ _ _ _ _ c.requires.can c.in-Ok.ensures.opened

pub returns-in-Ok-clause-grown : goal.returns-in-Ok-clause-grown
returns-in-Ok-clause-grown c = grown_through _ _ _ c.open_rest.ensures.grown c.extend_rest.ensures.grown

pub returns-in-Ok-clause-taken : goal.returns-in-Ok-clause-taken
returns-in-Ok-clause-taken c = ok_map _ _ _ c.extend_rest.ensures.taken (λ t. splits_taken _ _ _ _ _ _ _ _ c.requires.can c.in-Ok.ensures.opened t)

pub returns-in-Ok-clause-refused : goal.returns-in-Ok-clause-refused
returns-in-Ok-clause-refused c = λ why e s h meets.
    splits_refused_second _ _ _ _ _ _ _ c.requires.can c.in-Ok.ensures.opened (c.extend_rest.ensures.refused why e) s h meets

pub returns-in-Err-clause-refused : goal.returns-in-Err-clause-refused
returns-in-Err-clause-refused c = λ why e s h meets.
    let i : c.in-Err.halt ≡ Because why = cc e in
    splits_refused_first _ _ _ _ _ c.requires.can (c.open_rest.ensures.refused why (c.in-Err.is ∙ ap Err i)) s h meets
