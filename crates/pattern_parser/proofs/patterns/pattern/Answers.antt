use Rattle.std.proofs.Common.{sym, ap, ◌∙◌}
use Rattle.std.proofs.lemmas.Result.{err_from_is_err_and}
use Rattle.grammar.proofs.Wholes.{none_answered, one_answered}
use Rattle.pattern_parser.specs.PatternReader as m
use Rattle.pattern_parser.proofs.PatternLaws.{decides}
use Rattle.pattern_parser.proofs.patterns.pattern.Goals as goal

pub returns-in_err-found-clause-found : goal.returns-in_err-found-clause-found
returns-in_err-found-clause-found c =
    let p = err_from_is_err_and c.from_residual.result c.from_residual.ensures.1 in
    rw (p.1, p.2) (none_answered (decides 100) _ _ (λ other. ap (m.whole (m.cons_at 101)) (sym c.new-cursor.ensures) ∙ c.in_err-found.ensures other)).found

pub returns-in_err-found-clause-refused : goal.returns-in_err-found-clause-refused
returns-in_err-found-clause-refused c =
    let p = err_from_is_err_and c.from_residual.result c.from_residual.ensures.1 in
    rw (p.1, p.2) (none_answered (decides 100) _ _ (λ other. ap (m.whole (m.cons_at 101)) (sym c.new-cursor.ensures) ∙ c.in_err-found.ensures other)).refused

pub returns-clause-derives : goal.returns-clause-derives
returns-clause-derives c = (one_answered (decides 100) _ _ _ _ _ (ap (m.whole (m.cons_at 101)) (sym c.new-cursor.ensures) ∙ c.in_ok-found.ensures) c.pattern_nests_within-nests.ensures c.entire.ensures).derives

pub returns-clause-nests : goal.returns-clause-nests
returns-clause-nests c = (one_answered (decides 100) _ _ _ _ _ (ap (m.whole (m.cons_at 101)) (sym c.new-cursor.ensures) ∙ c.in_ok-found.ensures) c.pattern_nests_within-nests.ensures c.entire.ensures).nests

pub returns-clause-found : goal.returns-clause-found
returns-clause-found c = (one_answered (decides 100) _ _ _ _ _ (ap (m.whole (m.cons_at 101)) (sym c.new-cursor.ensures) ∙ c.in_ok-found.ensures) c.pattern_nests_within-nests.ensures c.entire.ensures).found

pub returns-clause-refused : goal.returns-clause-refused
returns-clause-refused c = (one_answered (decides 100) _ _ _ _ _ (ap (m.whole (m.cons_at 101)) (sym c.new-cursor.ensures) ∙ c.in_ok-found.ensures) c.pattern_nests_within-nests.ensures c.entire.ensures).refused
