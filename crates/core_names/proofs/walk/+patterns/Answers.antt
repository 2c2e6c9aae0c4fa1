use Rattle.plain_form.specs.Numbering.{pattern_binders}
use Rattle.core_names.proofs.Joining.{next}
use Rattle.core_names.proofs.walk.+patterns.Goals as goal

pub push_patterns-loop-pattern-preserved : goal.push_patterns-loop-pattern-preserved
push_patterns-loop-pattern-preserved n c =
    next pattern_binders c.args.patterns.now c.loop-pattern.pattern-index c.pattern-item.result _ _ _ c.loop-pattern-test.true c.pattern-item.is c.loop-pattern.invariant c.in_ok-push_pattern.ensures
