use Rattle.std.proofs.Common.{ℕ, [], ◌∷◌, ◌++◌, refl, sym}
use Rattle.std.proofs.lemmas.Result.{err_from_is_err_and}
use Rattle.elm_base.specs.declared.tree.Expr.{Expr}
use Rattle.grammar.specs.Reader.{Parser, linked}
use Rattle.grammar.proofs.ListTurns.{shorter}
use Rattle.expr_grammar.specs.ExprReader as m
use Rattle.expr_grammar.specs.ExprReader.{links, operators_begin, last_forms_begin, operator}
use Rattle.expr_grammar.proofs.Takes.{operator_takes, operand_takes}
use Rattle.expr_parser.proofs.LinkParts.{apart_more, apart_ok, apart_err, read_ok, read_err}
use Rattle.expr_parser.proofs.LinkTurns.{with_none, links_last, links_err_between, links_err_behind, links_end, links_turn, links_smaller, chosen_first, chosen_second}
use Rattle.expr_parser.proofs.exprs.Exprs.links.Goals as goal

abbrev operand : ℕ → Parser Expr
operand depth = m.operand (m.below depth)

abbrev last : ℕ → Parser Expr
last depth = m.last_form (m.below depth)

pub turns-init : goal.turns-init
turns-init g c = ([], rw (c.new-operators.ensures, c.new-operands.ensures) refl, with_none _)

pub returns-in_err-add : goal.returns-in_err-add
unfolding links linked
returns-in_err-add g c =
    let d = c.args.self.now.depth in
    let p = err_from_is_err_and c.from_residual.result c.from_residual.ensures.1 in
    rw (p.1, p.2) (λ h. apart_err (links (m.below d)) c.args.tokens.now
    (links_err_between operators_begin last_forms_begin operator (operand d) (last d) c.turns.invariant.0 _ c.turns.tokens (sym c.turns-test.ensures)
    (read_err _ _ _ _ c.operator.ensures c.in_err-add.ensures) c.turns.invariant.2 h))

pub returns-in_err-add-2 : goal.returns-in_err-add-2
unfolding links linked
returns-in_err-add-2 g c =
    let d = c.args.self.now.depth in
    let a = c.in_ok-add.ensures in
    let read = read_ok _ _ _ a.0 c.operator.ensures a.1 in
    let p = err_from_is_err_and c.from_residual-in_err-add-2.result c.from_residual-in_err-add-2.ensures.1 in
    rw (p.1, p.2) (λ h. apart_err (links (m.below d)) c.args.tokens.now
    (links_err_behind operators_begin last_forms_begin operator (operand d) (last d) c.turns.invariant.0 _ a.0 c.turns.tokens _ (sym c.turns-test.ensures) read
    (read_err _ _ _ _ c.linked.ensures c.in_err-add-2.ensures) c.turns.invariant.2 h))

pub turns-smaller : goal.turns-smaller
turns-smaller g c =
    let d = c.args.self.now.depth in
    let a = c.in_ok-add.ensures in
    let read = read_ok _ _ _ a.0 c.operator.ensures a.1 in
    let b = c.in_ok-add-2.ensures in
    let next = chosen_second last_forms_begin (last d) (operand d) _ _ (sym c.if-is_last.ensures) (read_ok _ _ _ b.0 c.linked.ensures b.1) in
    links_smaller operators_begin last_forms_begin operator (operand d) (last d) (shorter operator_takes) (shorter (operand_takes d)) a.0 b.0 c.turns.tokens _ _
    read next

pub turns-preserved : goal.turns-preserved
unfolding links linked
turns-preserved g c =
    let d = c.args.self.now.depth in
    let a = c.in_ok-add.ensures in
    let read = read_ok _ _ _ a.0 c.operator.ensures a.1 in
    let b = c.in_ok-add-2.ensures in
    let next = chosen_second last_forms_begin (last d) (operand d) _ _ (sym c.if-is_last.ensures) (read_ok _ _ _ b.0 c.linked.ensures b.1) in (
      c.turns.invariant.0 ++ (a.0, b.0) ∷ [],
      rw (a.2, b.2) (apart_more c.turns.invariant.0 c.turns.operators c.turns.operands a.0 b.0 c.turns.invariant.1),
      links_turn operators_begin last_forms_begin operator (operand d) (last d) (shorter operator_takes) (shorter (operand_takes d)) c.turns.invariant.0 a.0 b.0
          c.turns.tokens _ _ (sym c.turns-test.ensures) read (sym c.if-is_last.ensures) next c.turns.invariant.2,
    )

pub returns-then-is_last : goal.returns-then-is_last
unfolding links linked
returns-then-is_last g c =
    let d = c.args.self.now.depth in
    let a = c.in_ok-add.ensures in
    let read = read_ok _ _ _ a.0 c.operator.ensures a.1 in
    let b = c.in_ok-add-2.ensures in
    let next = chosen_first last_forms_begin (last d) (operand d) _ _ (sym c.if-is_last.ensures) (read_ok _ _ _ b.0 c.linked.ensures b.1) in
    rw (a.2, b.2)
    (apart_ok (links (m.below d)) c.args.tokens.now _ (c.turns.invariant.0 ++ (a.0, b.0) ∷ []) _ _
    (apart_more c.turns.invariant.0 c.turns.operators c.turns.operands a.0 b.0 c.turns.invariant.1)
    (links_last operators_begin last_forms_begin operator (operand d) (last d) c.turns.invariant.0 a.0 b.0 c.turns.tokens _ _ (sym c.turns-test.ensures) read
    (sym c.if-is_last.ensures) next c.turns.invariant.2))

pub returns : goal.returns
unfolding links linked
returns g c =
    let d = c.args.self.now.depth in
    apart_ok (links (m.below d)) c.args.tokens.now c.turns.tokens c.turns.invariant.0 c.turns.operators c.turns.operands c.turns.invariant.1
    (links_end operators_begin last_forms_begin operator (operand d) (last d) c.turns.invariant.0 c.turns.tokens (sym c.turns-test.ensures) c.turns.invariant.2)
