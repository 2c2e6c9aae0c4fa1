use Rattle.std.proofs.Common.{◌∙◌, sym, ap}
use Rattle.module_names.specs.declared.whole.Named.{Named}
use Rattle.module_names.specs.Named.{flaws_of}
use Rattle.module_scope.specs.Finding.{first_in}
use Rattle.module_scope.proofs.Least.{name_fault}
use Rattle.module_scope.proofs.found.add_module.Goals as goal

pub returns-in-Some : goal.returns-in-Some
returns-in-Some c =
    let name = c.args.«module».now.name in
    name_fault name (flaws_of c.args.faces.now c.args.«module».now) c.in-Some.fault
    (ap (first_in name) (sym (c.as_slice.ensures ∙ ap (λ (named : Named). named.flaws) c.in_ok-named.ensures)) ∙ sym c.in_ok-fault.ensures ∙ c.in-Some.is)
