use Rattle.std.proofs.Common.{length}
use Rattle.grammar.proofs.terminal.+listed.Given as goal

abbrev pub decreases-listed : goal.decreases-listed
decreases-listed l = length l.entries.now
