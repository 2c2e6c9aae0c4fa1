use Rattle.std.proofs.Common.{arith}
use Rattle.core_names.specs.Binding.{names_of}
use Rattle.core_parts.proofs.Further as further
use Rattle.core_parts.proofs.names.parameters.Goals as goal

pub loop-further-preserved : goal.loop-further-preserved
loop-further-preserved c =
    further.locals_turn (names_of c.args.of.now) c.args.at c.loop-further.further c.in_ok-number.number _ _ c.in_ok-number.ensures c.in_ok-push.ensures.ok c.loop-further.invariant

pub returns : goal.returns
returns c =
    further.locals_whole (names_of c.args.of.now) c.args.at c.loop-further.further c.args.count c.loop-further.made (omega (arith, c.loop-further-test.false, c.loop-further.auto.further-end)) c.loop-further.invariant
