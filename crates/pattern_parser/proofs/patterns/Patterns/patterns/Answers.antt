use Rattle.std.proofs.Common.{rules}
use Rattle.grammar.proofs.ListTurns.{takes_some}
use Rattle.pattern_parser.specs.PatternReader as m
use Rattle.pattern_parser.proofs.PatternReadings.{cons_reads, whole_reads}
use Rattle.pattern_parser.proofs.patterns.Patterns.patterns.Goals as goal

pub separated-requires : goal.separated-requires
separated-requires g c = ((m.whole (m.cons_at c.args.self.now.depth)), record { callable = λ old. search rules; reads = λ old new r post. search rules; takes = takes_some (whole_reads (cons_reads c.args.self.now.depth)) })

pub returns : goal.returns
returns g c = c.separated.ensures (m.whole (m.cons_at c.args.self.now.depth)) (record { callable = λ old. search rules; reads = λ old new r post. search rules; takes = takes_some (whole_reads (cons_reads c.args.self.now.depth)) })
