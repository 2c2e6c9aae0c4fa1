use Rattle.core_names.specs.Binding.{names_of}
use Rattle.core_parts.proofs.Further as further
use Rattle.core_parts.proofs.names.binders.Goals as goal

pub loop-further-preserved : goal.loop-further-preserved
loop-further-preserved c =
    further.binders_turn (names_of c.args.of.now) c.args.at c.loop-further.further c.in_ok-number.number _ _ c.in_ok-number.ensures c.in_ok-push.ensures.ok c.loop-further.invariant
