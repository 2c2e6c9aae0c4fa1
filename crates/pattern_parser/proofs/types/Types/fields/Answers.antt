use Rattle.std.proofs.Common.{rules}
use Rattle.grammar.proofs.ListTurns.{takes_some}
use Rattle.pattern_parser.specs.TypeReader as m
use Rattle.pattern_parser.proofs.TypeReadings.{type_reads, field_reads}
use Rattle.pattern_parser.proofs.types.Types.fields.Goals as goal

pub separated-requires : goal.separated-requires
separated-requires g c = ((m.field (m.type_at c.args.self.now.depth)), record { callable = λ old. search rules; reads = λ old new r post. search rules; takes = takes_some (field_reads (type_reads c.args.self.now.depth)) })

pub returns : goal.returns
returns g c = c.separated.ensures (m.field (m.type_at c.args.self.now.depth)) (record { callable = λ old. search rules; reads = λ old new r post. search rules; takes = takes_some (field_reads (type_reads c.args.self.now.depth)) })
