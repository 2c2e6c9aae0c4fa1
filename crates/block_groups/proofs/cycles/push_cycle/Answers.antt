use Rattle.std.proofs.Common.{[], ◌∷◌, ◌++◌, sym, ap, ◌∙◌}
use Rattle.std.proofs.lemmas.List.{append-nil}
use Rattle.module_names.specs.declared.flaws.Flaw.{Flaw}
use Rattle.block_groups.specs.Cycles.{cycle_at, first_of}
use Rattle.block_groups.proofs.Faults.{fault_none, fault_one}
use Rattle.block_groups.proofs.cycles.push_cycle.Goals as goal

pub returns-in_ok-push : goal.returns-in_ok-push
returns-in_ok-push c =
    let definitions = c.args.definitions.now in (
      cycle_at definitions (first_of c.args.group.now.members) ∷ [],
      fault_one definitions c.args.functions.now c.args.group.now c.is_cyclic_value.result c.requires.same c.is_cyclic_value.ensures c.if-is_cyclic_value.true,
      c.in_ok-push.ensures.ok ∙ ap (λ (flaw : Flaw). c.args.out.now ++ flaw ∷ [])
          (c.in_ok-cycle_at.ensures ∙ ap (cycle_at definitions) (c.first_of-first.ensures ∙ ap first_of c.as_slice.ensures)),
    )

pub returns-else-is_cyclic_value : goal.returns-else-is_cyclic_value
returns-else-is_cyclic_value c = (
  [],
  fault_none c.args.definitions.now c.args.functions.now c.args.group.now c.is_cyclic_value.result c.requires.same c.is_cyclic_value.ensures
      c.if-is_cyclic_value.false,
  sym (append-nil c.args.out.now),
)
