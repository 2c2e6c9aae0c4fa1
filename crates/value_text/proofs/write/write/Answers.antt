use Rattle.std.proofs.Common.{◌≡◌, ◌∙◌, ap, arith, length, drop}
use Rattle.std.proofs.lemmas.List.{nil_from_length}
use Rattle.elm_meaning.specs.ValueText.{text_of}
use Rattle.value_arena.specs.Unfolding.{unfolded}
use Rattle.value_text.specs.Pieces.{written, waiting}
use Rattle.value_text.proofs.Turns.{popped_below, written_turn, smaller_turn, below_turn, budget_turn, over_turn, ended}
use Rattle.value_text.proofs.write.write.Goals as goal

pub visit-requires : goal.visit-requires
visit-requires c = (popped_below (length c.args.arena.now) c.pieces.pending.items c.pop.new.self.items c.in-Some.piece c.pieces.invariant.3 c.in-Some.ensures.items).1

pub pieces-smaller : goal.pieces-smaller
pieces-smaller c =
    smaller_turn c.args.arena.now c.pieces.pending.items c.pop.new.self.items c.visit.new.pending.items c.in-Some.piece c.unfolds.ensures
    c.pieces.invariant.3 c.in-Some.ensures.items c.in_ok-visit.ensures.pending

pub pieces-preserved : goal.pieces-preserved
pieces-preserved c =
    let i = c.pieces.invariant in
    let n : c.len-before.result ≡ length c.pieces.text.items = omega (arith, c.len-before.ensures) in
    let budget =
    budget_turn c.pieces.text.items c.visit.new.text.items (written c.args.arena.now c.in-Some.piece) c.split_at.result.1.now c.len-before.result
    c.pieces.budget.left c.in-Some-spent.after.left c.pieces.budget.following c.in-Some-spent.after.following c.args.limit
    c.in_ok-visit.ensures.text n (c.split_at.ensures.back ∙ ap (drop c.len-before.result) c.as_slice.ensures.value)
    i.1 i.2 c.in-Some-spent.ensures.0 c.in-Some-spent.ensures.1 in (
      λ lambdas.
          written_turn lambdas c.args.arena.now c.pieces.text.items c.visit.new.text.items c.pieces.pending.items c.pop.new.self.items c.visit.new.pending.items c.in-Some.piece
          (text_of (unfolded lambdas c.args.arena.now c.args.at)) c.unfolds.ensures i.3 c.in-Some.ensures.items c.in_ok-visit.ensures.text c.in_ok-visit.ensures.pending (i.0 lambdas),
      budget.0,
      budget.1,
      below_turn c.args.arena.now c.pieces.pending.items c.pop.new.self.items c.visit.new.pending.items c.in-Some.piece c.unfolds.ensures i.3 c.in-Some.ensures.items
          c.in_ok-visit.ensures.pending,
    )

pub returns-in-None : goal.returns-in-None
returns-in-None c = λ lambdas.
    let i = c.pieces.invariant in
    let n : c.len-before.result ≡ length c.pieces.text.items = omega (arith, c.len-before.ensures) in
    over_turn c.pieces.text.items c.visit.new.text.items (written c.args.arena.now c.in-Some.piece) c.split_at.result.1.now
    (waiting lambdas c.args.arena.now c.visit.new.pending.items) (text_of (unfolded lambdas c.args.arena.now c.args.at)) c.len-before.result
    c.pieces.budget.left c.pieces.budget.following c.args.limit
    c.in_ok-visit.ensures.text n (c.split_at.ensures.back ∙ ap (drop c.len-before.result) c.as_slice.ensures.value)
    i.1 i.2 c.in-None.ensures
    (written_turn lambdas c.args.arena.now c.pieces.text.items c.visit.new.text.items c.pieces.pending.items c.pop.new.self.items c.visit.new.pending.items c.in-Some.piece
    (text_of (unfolded lambdas c.args.arena.now c.args.at)) c.unfolds.ensures i.3 c.in-Some.ensures.items c.in_ok-visit.ensures.text c.in_ok-visit.ensures.pending (i.0 lambdas))

pub returns : goal.returns
returns c = λ lambdas.
    ended lambdas c.args.arena.now c.pieces.text.items (text_of (unfolded lambdas c.args.arena.now c.args.at)) c.pieces.pending.items c.pieces.budget.left c.args.limit
    (nil_from_length c.pieces.pending.items (omega (arith, c.in_default.ensures.cases))) (c.pieces.invariant.0 lambdas) c.pieces.invariant.1
