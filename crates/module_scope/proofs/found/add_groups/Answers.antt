use Rattle.std.proofs.Common.{List, sym, subst, ap, ◌∙◌, Option}
use Rattle.elm_base.specs.declared.fault.ProjectFault.{ProjectFault}
use Rattle.module_names.specs.declared.flaws.Flaw.{Flaw}
use Rattle.module_scope.specs.Finding.{CycleNoted, noted}
use Rattle.module_scope.proofs.Adding.{cycle_noted_by}
use Rattle.module_scope.proofs.found.add_groups.Goals as goal

pub returns-clause-cycle : goal.returns-clause-cycle
returns-clause-cycle c =
    let home = c.args.«module».now in
    subst (λ (now : Option ProjectFault). CycleNoted c.args.faces.now home c.args.found.now.cycle now)
    (sym (c.in_ok-note.ensures ∙ ap (λ (cycles : List Flaw). noted home.name cycles c.args.found.now.cycle) c.as_slice.ensures))
    (cycle_noted_by c.args.faces.now home c.args.steps.now c.args.uses.now c.in_ok-groups.field-0.cycles c.args.found.now.cycle c.requires.steps c.requires.uses
    c.in_ok-groups.ensures.cycles)
