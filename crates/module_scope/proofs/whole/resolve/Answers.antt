use Rattle.module_scope.proofs.Adding.{resolved_by}
use Rattle.module_scope.proofs.whole.resolve.Goals as goal

pub returns-in-None-clause-resolved : goal.returns-in-None-clause-resolved
returns-in-None-clause-resolved c =
    resolved_by c.args.project c.as_slice.result.now c.in_ok-meanings.field-0 c.as_slice.ensures c.in_ok-meanings.ensures c.in-None.is
