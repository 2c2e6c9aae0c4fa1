use Rattle.std.proofs.Common.{arith}
use Rattle.reactor_outside.proofs.RepeatedLaws.{ends_exactly}
use Rattle.reactor_outside.proofs.repeated.Repeated.hand_out.Goals as goal

pub returns-clause-end : goal.returns-clause-end
returns-clause-end c = λ room. ends_exactly c.self.inside.piece.items c.args.self.now c.self.inside.total c.self.inside.given c.copy_repeated-count.result (omega arith) c.copy_repeated-count.ensures.total (c.copy_repeated-count.ensures.end room) c.self.view_is
