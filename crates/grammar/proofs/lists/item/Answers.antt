use Rattle.std.proofs.lemmas.Result.{err_from_is_err_and}
use Rattle.grammar.proofs.Items.{item_end, item_err}
use Rattle.grammar.proofs.ListTurns.{taken}
use Rattle.grammar.proofs.lists.item.Goals as goal

pub returns-in_err-found : goal.returns-in_err-found
returns-in_err-found g c = λ p r.
    let e = err_from_is_err_and c.from_residual.result c.from_residual.ensures.1 in
    rw (e.1, e.2)
    (item_err p c.args.column c.extent-len.result _ c.front-front.result _ c.extent-len.ensures.value c.front-front.ensures
    (r.reads _ _ _ c.in_err-found.ensures))

pub returns : goal.returns
returns g c = λ p r.
    let e =
    item_end (taken r.takes) c.args.column c.extent-len.result c.args.tokens.now c.front-front.result c.next.new.arg2 c.in_ok-found.found
    c.extent-len.ensures.value c.front-front.ensures (r.reads _ _ _ c.in_ok-found.ensures) in
    rw (c.advance.ensures, c.len.ensures) e.1
