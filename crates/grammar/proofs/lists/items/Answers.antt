use Rattle.std.proofs.Common.{refl, sym}
use Rattle.std.proofs.lemmas.Result.{err_from_is_err_and}
use Rattle.grammar.specs.Reader.{item, items, begins}
use Rattle.grammar.proofs.Turns.{loop_turn, loop_err, loop_ends}
use Rattle.grammar.proofs.Items.{item_takes}
use Rattle.grammar.proofs.ListTurns.{shorter}
use Rattle.grammar.proofs.lists.items.Goals as goal

pub turns-init : goal.turns-init
turns-init g c = λ p r. refl

pub returns-in_err-item : goal.returns-in_err-item
unfolding items
returns-in_err-item g c = λ p r.
    let e = err_from_is_err_and c.from_residual.result c.from_residual.ensures.1 in
    rw (e.1, e.2)
    (loop_err (begins c.args.column c.args.set.now) (item c.args.column p) refl (item_takes c.args.column p (shorter r.takes)) c.turns.found _
    c.turns.tokens (sym c.turns-test.ensures) (c.in_err-item.ensures p r) (c.turns.invariant p r))

pub turns-smaller : goal.turns-smaller
turns-smaller g c = let r = c.requires.1 in item_takes c.args.column _ (shorter r.takes) _ _ _ (c.in_ok-item.ensures _ r)

pub turns-preserved : goal.turns-preserved
unfolding items
turns-preserved g c = λ p r.
    rw c.in_ok-push.ensures.ok
    (loop_turn (begins c.args.column c.args.set.now) (item c.args.column p) refl (item_takes c.args.column p (shorter r.takes)) c.turns.found _
    c.turns.tokens _ (sym c.turns-test.ensures) (c.in_ok-item.ensures p r) (c.turns.invariant p r))

pub returns : goal.returns
unfolding items
returns g c = λ p r. loop_ends (begins c.args.column c.args.set.now) (item c.args.column p) c.turns.found c.turns.tokens (sym c.turns-test.ensures) (c.turns.invariant p r)
