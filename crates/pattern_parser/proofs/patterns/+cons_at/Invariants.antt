use Rattle.pattern_parser.proofs.patterns.+cons_at.Given as goal

abbrev pub decreases-cons_at : goal.decreases-cons_at
decreases-cons_at l = l.depth
