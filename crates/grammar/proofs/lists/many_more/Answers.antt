use Rattle.std.proofs.Common.{refl, sym}
use Rattle.std.proofs.lemmas.Result.{err_from_is_err_and}
use Rattle.grammar.specs.Terminals.{starts}
use Rattle.grammar.specs.Reader.{many}
use Rattle.grammar.proofs.ListTurns.{shorter}
use Rattle.grammar.proofs.Turns.{loop_turn, loop_err, loop_ends}
use Rattle.grammar.proofs.lists.many_more.Goals as goal

pub turns-init : goal.turns-init
turns-init g c = λ p r. refl

pub returns-in_err-next : goal.returns-in_err-next
unfolding many
returns-in_err-next g c = λ p r.
    let e = err_from_is_err_and c.from_residual.result c.from_residual.ensures.1 in
    rw (e.1, e.2)
    (loop_err (starts c.args.set.now) p refl (shorter r.takes) c.turns.found _ c.turns.tokens (sym c.turns-test.ensures) (r.reads _ _ _ c.in_err-next.ensures)
    (c.turns.invariant p r))

pub turns-preserved : goal.turns-preserved
unfolding many
turns-preserved g c = λ p r.
    rw c.in_ok-push.ensures.ok
    (loop_turn (starts c.args.set.now) p refl (shorter r.takes) c.turns.found _ c.turns.tokens _ (sym c.turns-test.ensures) (r.reads _ _ _ c.in_ok-next.ensures)
    (c.turns.invariant p r))

pub returns : goal.returns
unfolding many
returns g c = λ p r. loop_ends (starts c.args.set.now) p c.turns.found c.turns.tokens (sym c.turns-test.ensures) (c.turns.invariant p r)

pub turns-smaller : goal.turns-smaller
turns-smaller g c = let r = c.requires.1 in shorter r.takes _ _ _ (r.reads _ _ _ c.in_ok-next.ensures)
