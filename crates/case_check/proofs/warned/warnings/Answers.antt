use Rattle.std.proofs.Common.{List, ◌+◌, take, sym, subst}
use Rattle.elm_base.specs.declared.tree.Module.{Module}
use Rattle.case_check.specs.Warnings.{AreWarningsOf}
use Rattle.case_check.proofs.OneMore.{behind_next}
use Rattle.case_check.proofs.warned.warnings.Goals as goal

pub loop-module-preserved : goal.loop-module-preserved
loop-module-preserved c =
    let same = c.as_slice-module-items.ensures in
    subst (λ (ms : List Module). AreWarningsOf c.args.typed.now (take (c.loop-module.module-index + 1) ms) c.append.new.self) same
    (behind_next c.args.typed.now c.as_slice-module-items.result.now c.loop-module.module-index c.module-item.result c.loop-module.found
    c.in_ok-more.more c.append.new.self c.loop-module-test.true c.module-item.is
    (subst (λ (ms : List Module). AreWarningsOf c.args.typed.now (take c.loop-module.module-index ms) c.loop-module.found) (sym same) c.loop-module.invariant)
    c.in_ok-more.ensures c.in_ok-append.ensures)
