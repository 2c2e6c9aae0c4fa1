use Rattle.std.proofs.Common.{rules}
use Rattle.grammar.proofs.ListTurns.{takes_some}
use Rattle.pattern_parser.specs.TypeReader as m
use Rattle.pattern_parser.proofs.TypeReadings.{type_reads, argument_reads}
use Rattle.pattern_parser.proofs.types.Types.arguments.Goals as goal

pub many-requires : goal.many-requires
many-requires g c = ((m.argument (m.type_at c.args.self.now.depth)), record { callable = λ old. search rules; reads = λ old new r post. search rules; takes = takes_some (argument_reads (type_reads c.args.self.now.depth)) })

pub returns : goal.returns
unfolding m.arguments
returns g c = c.many.ensures (m.argument (m.type_at c.args.self.now.depth)) (record { callable = λ old. search rules; reads = λ old new r post. search rules; takes = takes_some (argument_reads (type_reads c.args.self.now.depth)) })
