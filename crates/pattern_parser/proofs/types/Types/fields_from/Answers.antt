use Rattle.std.proofs.Common.{rules, arith}
use Rattle.std.proofs.lemmas.Grind.{common_steps}
use Rattle.grammar.proofs.ListTurns.{takes_some}
use Rattle.pattern_parser.specs.TypeReader as m
use Rattle.pattern_parser.proofs.TypeReadings.{type_reads, next_field_reads}
use Rattle.pattern_parser.proofs.types.Types.fields_from.Goals as goal

pub many_more-requires : goal.many_more-requires
many_more-requires g c = ((m.next_field (m.type_at c.args.self.now.depth)), record { callable = λ old. search rules; reads = λ old new r post. search rules; takes = takes_some (next_field_reads (type_reads c.args.self.now.depth)) })

pub returns : goal.returns
unfolding m.more_fields
returns g c =
    let e = c.many_more.ensures (m.next_field (m.type_at c.args.self.now.depth)) (record { callable = λ old. search rules; reads = λ old new r post. search rules; takes = takes_some (next_field_reads (type_reads c.args.self.now.depth)) }) in
    first_of (search rules, grind (arith, common_steps))
