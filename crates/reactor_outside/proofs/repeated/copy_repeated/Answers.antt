use Rattle.std.proofs.Common.{arith}
use Rattle.reactor_outside.proofs.RepeatedLaws.{copied_of_repeated}
use Rattle.reactor_outside.proofs.repeated.copy_repeated.Goals as goal

pub returns-clause-next : goal.returns-clause-next
returns-clause-next c = copied_of_repeated c.args.piece.now c.copy_front.new.into c.args.total c.args.given c.min-count.result c.requires.some (omega arith) (omega arith) c.copy_front.ensures
