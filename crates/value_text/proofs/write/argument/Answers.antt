use Rattle.std.proofs.Common.{length}
use Rattle.value_text.proofs.Steps.{ref_below}
use Rattle.value_text.proofs.write.argument.Goals as goal

pub node-requires : goal.node-requires
node-requires c = ref_below (length c.args.arena.now) c.args.refs.now c.args.place.1 c.in-Some.argument c.requires c.in-Some.ensures.0
