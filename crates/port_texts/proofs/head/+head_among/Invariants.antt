use Rattle.std.proofs.Common.{length}
use Rattle.port_texts.proofs.head.+head_among.Given as goal

abbrev pub decreases-head_among : goal.decreases-head_among
decreases-head_among l = length l.heads.now
