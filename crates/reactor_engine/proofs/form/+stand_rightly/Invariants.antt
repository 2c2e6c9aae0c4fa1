use Rattle.std.proofs.Common.{length}
use Rattle.reactor_engine.proofs.form.+stand_rightly.Given as goal

abbrev pub decreases-stand_rightly : goal.decreases-stand_rightly
decreases-stand_rightly l = length l.tokens.now
