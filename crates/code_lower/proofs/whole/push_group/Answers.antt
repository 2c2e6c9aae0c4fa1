use Rattle.std.proofs.Common.{refl}
use Rattle.code_lower.proofs.Program.{definition_turn}
use Rattle.code_lower.proofs.whole.push_group.Goals as goal

pub loop-definition-preserved : goal.loop-definition-preserved
loop-definition-preserved c =
    definition_turn c.args.code.now c.loop-definition.code _ c.push_definition.new.terms c.loop-definition.definition-index c.args.group.now c.definition-item.result c.in_ok-top.top c.loop-definition-test.true c.definition-item.is
    c.loop-definition.invariant c.in_ok-top.ensures.placed c.in_ok-top.ensures.named refl c.in_ok-push.ensures.ok
