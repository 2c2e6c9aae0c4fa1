use Rattle.std.proofs.Common.{◌≡◌, ◌∙◌, Err, ap}
use Rattle.elm_base.specs.declared.memory.Halt.TheVariants.{Because}
use Rattle.type_unify.proofs.Narrowing.{grown_through}
use Rattle.type_unify.proofs.Unifying.{solving_more, solving_refused, solving_done}
use Rattle.type_unify.proofs.solver.solve.Goals as goal

pub returns-in-Done-clause-unified : goal.returns-in-Done-clause-unified
returns-in-Done-clause-unified c =
    solving_done c.args.store.now c.steps.store _ _ _ _ _ _ c.stays_sound.ensures c.steps.invariant c.in_ok-step.ensures c.in-Done.is

pub steps-preserved : goal.steps-preserved
steps-preserved c =
    solving_more _ c.steps.store c.take.new.store _ _ _ _ _ c.steps.invariant
    c.in_ok-step.ensures
    c.in-Ok.ensures.grown c.in-Ok.ensures.taken

pub returns-in-Err : goal.returns-in-Err
returns-in-Err c = record {
  grown = grown_through _ _ _ c.steps.invariant.grown c.take.ensures.grown;
  unified = tt;
  refused = λ why e s h same.
      let i : c.in-Err.halt ≡ Because why = cc e in
      solving_refused c.args.store.now c.steps.store _ _ _ _ _ c.steps.invariant
      c.in_ok-step.ensures
      (c.take.ensures.refused why (c.in-Err.is ∙ ap Err i)) s h same;
}
