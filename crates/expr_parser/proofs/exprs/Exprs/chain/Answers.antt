use Rattle.std.proofs.Common.{◌∙◌, ap, subst, Some}
use Rattle.std.proofs.lemmas.Result.{err_from_is_err_and}
use Rattle.grammar.specs.Reader.{Reads}
use Rattle.expr_parser.specs.Chains.{separately}
use Rattle.expr_grammar.specs.ExprReader as m
use Rattle.expr_grammar.specs.ExprReader.{chain}
use Rattle.expr_parser.proofs.LinkParts.{chain_ok, chain_err_at, chain_err_first, chain_err_links, second_err, second_ok}
use Rattle.expr_parser.proofs.exprs.Exprs.chain.Goals as goal

pub returns-in_err-at : goal.returns-in_err-at
unfolding chain
returns-in_err-at g c =
    let b = m.below c.args.self.now.depth in
    let p = err_from_is_err_and c.from_residual.result c.from_residual.ensures.1 in
    rw (p.1, p.2) (λ h. chain_err_at (m.operand b) (m.links b) c.args.tokens.now (c.in_err-at.ensures h))

pub returns-in_err-operand : goal.returns-in_err-operand
unfolding chain
returns-in_err-operand g c =
    let b = m.below c.args.self.now.depth in
    let p = err_from_is_err_and c.from_residual-in_err-operand.result c.from_residual-in_err-operand.ensures.1 in
    rw (p.1, p.2) (λ h. chain_err_first (m.operand b) (m.links b) c.args.tokens.now c.in_ok-at.at c.in_ok-at.ensures (c.in_err-operand.ensures h))

pub returns-in_err-first : goal.returns-in_err-first
unfolding chain
returns-in_err-first g c =
    let b = m.below c.args.self.now.depth in
    let p = err_from_is_err_and c.from_residual-in_err-first.result c.from_residual-in_err-first.ensures.1 in
    let e = second_err c.in_ok-operand.field-0 c.links.result c.paired.result c.in_err-first.field-0.0 c.paired.ensures c.in_err-first.was in
    let l = subst (λ z. Reads (separately (m.links b) c.operand.new.tokens) z c.links.new.tokens) e c.links.ensures in
    rw (p.1, p.2) (λ h. chain_err_links (m.operand b) (m.links b) c.args.tokens.now c.operand.new.tokens c.in_ok-at.at c.in_ok-operand.field-0
    c.in_ok-at.ensures c.in_ok-operand.ensures (l h))

pub returns : goal.returns
unfolding chain
returns g c =
    let b = m.below c.args.self.now.depth in
    let o = second_ok c.in_ok-operand.field-0 c.links.result c.paired.result c.in_ok-first.first c.in_ok-first.links c.paired.ensures c.in_ok-first.was in
    let l = subst (λ z. Reads (separately (m.links b) c.operand.new.tokens) z c.links.new.tokens) o.1 c.links.ensures in
    chain_ok (m.operand b) (m.links b) c.args.tokens.now c.operand.new.tokens c.links.new.tokens c.in_ok-at.at c.in_ok-first.first c.in_ok-chained.field-0
    c.in_ok-first.links.0 c.in_ok-first.links.1 c.in_ok-at.ensures (c.in_ok-operand.ensures ∙ ap (λ z. Some (z, c.operand.new.tokens)) o.0) l
    c.in_ok-chained.ensures
