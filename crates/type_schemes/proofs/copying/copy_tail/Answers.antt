use Rattle.type_schemes.proofs.PartsCopied.{row-over}
use Rattle.type_schemes.proofs.copying.copy_tail.Goals as goal

pub returns : goal.returns
returns c = row-over c.args.conditions.now c.make_row.new.self c.args.tail _ _ c.new.ensures c.in_ok-at.ensures.adds c.in_ok-at.ensures.tails
