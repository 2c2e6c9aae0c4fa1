use Rattle.std.proofs.Common.{◌∙◌, List, Result, Err, subst}
use Rattle.std.proofs.lemmas.Result.{err_from_is_err_and}
use Rattle.module_names.specs.declared.face.Face.{Face}
use Rattle.elm_base.specs.declared.fault.ProjectFault.{ProjectFault}
use Rattle.elm_base.specs.declared.memory.Halt.{Halt}
use Rattle.module_scope.specs.Finding.{Added, IsAdded}
use Rattle.module_scope.specs.Modules.{faces_of}
use Rattle.module_scope.proofs.Adding.{finds_err, found_next}
use Rattle.module_scope.proofs.whole.find_all.Goals as goal

pub returns-in_err-add_module : goal.returns-in_err-add_module
returns-in_err-add_module c =
    let modules = c.args.modules.now in
    let p = err_from_is_err_and c.from_residual-in_err-add_module.result c.from_residual-in_err-add_module.ensures.1 in
    rw (p.1, p.2)
    (finds_err modules c.loop-next.next-index c.next-item.result c.loop-next-test.true c.next-item.is c.loop-next.found c.add_module.new.found
    c.in_err-add_module.field-0.0 c.loop-next.invariant.named
    (subst (λ (faces : List Face). Added faces c.next-item.result c.loop-next.found c.add_module.new.found (Err c.in_err-add_module.field-0.0))
    (c.as_slice.ensures ∙ c.in_ok-faces.ensures)
    (subst (λ (r : Result Unit (Halt ProjectFault)). Added c.as_slice.result.now c.next-item.result c.loop-next.found c.add_module.new.found r)
    c.in_err-add_module.was c.add_module.ensures)))

pub loop-next-preserved : goal.loop-next-preserved
loop-next-preserved c =
    let modules = c.args.modules.now in
    found_next modules c.loop-next.next-index c.next-item.result c.loop-next-test.true c.next-item.is (faces_of modules) c.loop-next.found
    c.add_module.new.found c.loop-next.invariant
    (subst (λ (faces : List Face). IsAdded faces c.next-item.result c.loop-next.found c.add_module.new.found)
    (c.as_slice.ensures ∙ c.in_ok-faces.ensures) c.in_ok-add_module.ensures)
