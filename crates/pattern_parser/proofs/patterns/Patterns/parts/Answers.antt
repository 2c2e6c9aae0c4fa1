use Rattle.std.proofs.Common.{rules}
use Rattle.grammar.proofs.ListTurns.{takes_some}
use Rattle.pattern_parser.specs.PatternReader as m
use Rattle.pattern_parser.proofs.PatternReadings.{cons_reads, part_reads}
use Rattle.pattern_parser.proofs.patterns.Patterns.parts.Goals as goal

pub many-requires : goal.many-requires
many-requires g c = ((m.part (m.cons_at c.args.self.now.depth)), record { callable = λ old. search rules; reads = λ old new r post. search rules; takes = takes_some (part_reads (cons_reads c.args.self.now.depth)) })

pub returns : goal.returns
unfolding m.parts
returns g c = c.many.ensures (m.part (m.cons_at c.args.self.now.depth)) (record { callable = λ old. search rules; reads = λ old new r post. search rules; takes = takes_some (part_reads (cons_reads c.args.self.now.depth)) })
