use Rattle.module_groups.proofs.Reaching.{SaysWhatReaches-closed}
use Rattle.module_groups.proofs.Rounds.{components_of}
use Rattle.module_groups.proofs.block.groups.Goals as goal

pub returns : goal.returns
returns c =
    components_of c.in_order.result c.args.references c.close.new.self c.close.ensures.width
    (SaysWhatReaches-closed c.args.references c.close.new.self c.requires c.bits-bits.ensures.rectangular c.close.ensures.closed) c.in_order.ensures
