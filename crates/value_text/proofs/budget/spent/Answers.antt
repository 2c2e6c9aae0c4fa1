use Rattle.std.proofs.Common.{get_or, ◌≡◌, ap, sym, ◌∙◌, arith, ℕ, ◌∷◌, []}
use Rattle.value_text.specs.Counting.{open_after}
use Rattle.value_text.proofs.Counts.{next_byte, none_yet, spent_over, last_one}
use Rattle.value_text.proofs.budget.spent.Goals.{then-following-eq0+in_ok-left, else-following-eq0}
use Rattle.value_text.proofs.budget.spent.Goals as goal

pub returns-in_err-left : goal.returns-in_err-left
returns-in_err-left c =
    let i = c.loop-byte.invariant in
    rw c.from_residual.ensures
    (spent_over c.args.budget.following c.loop-byte.left c.args.budget.left c.args.bytes.now c.loop-byte.byte-index c.next_following-following.result
    c.loop-byte-test.true (c.next_following-following.ensures ∙ ap (λ (n : ℕ). open_after n (get_or c.args.bytes.now c.loop-byte.byte-index 0 ∷ [])) i.1) c.if-following-eq0.true i.0
    (omega (arith, c.in_err-left.ensures)))

pub loop-byte-preserved : goal.loop-byte-preserved
loop-byte-preserved c =
    let i = c.loop-byte.invariant in
    let next = next_byte c.args.budget.following c.args.bytes.now c.loop-byte.byte-index c.next_following-following.result
    c.loop-byte-test.true (c.next_following-following.ensures ∙ ap (λ (n : ℕ). open_after n (get_or c.args.bytes.now c.loop-byte.byte-index 0 ∷ [])) i.1) in
    elim c.if-following-eq0.branch [
      | then-following-eq0+in_ok-left w ↦
          let one : last_one c.next_following-following.result ≡ 1 = ap last_one w.if-following-eq0.true in
          (omega (arith, w.left-is, w.in_ok-left.ensures, next.1, one, i.0), sym next.0)
      | else-following-eq0 w ↦
          let none = none_yet 0 c.next_following-following.result w.if-following-eq0.false in
          (omega (arith, w.left-is, next.1, none, i.0), sym next.0)
    ]
