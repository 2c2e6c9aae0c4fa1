use Rattle.std.proofs.Common.{get_or, ◌≡◌, ap, sym, ◌∙◌, arith, ℕ, ◌∷◌, []}
use Rattle.value_text.specs.Counting.{completed, open_after}
use Rattle.value_text.proofs.Counts.{next_byte, none_yet, last_one, all_taken, counted}
use Rattle.value_text.proofs.budget.count_chars.Goals.{then-following-eq0, else-following-eq0}
use Rattle.value_text.proofs.budget.count_chars.Goals as goal

pub loop-byte-preserved : goal.loop-byte-preserved
loop-byte-preserved c =
    let i = c.loop-byte.invariant in
    let next = next_byte 0 c.args.bytes.now c.loop-byte.byte-index c.next_following-following.result
    c.loop-byte-test.true (c.next_following-following.ensures ∙ ap (λ (n : ℕ). open_after n (get_or c.args.bytes.now c.loop-byte.byte-index 0 ∷ [])) i.1) in
    elim c.if-following-eq0.branch [
      | then-following-eq0 w ↦
          let one : last_one c.next_following-following.result ≡ 1 = ap last_one w.if-following-eq0.true in
          (omega (arith, w.count-is, next.1, one, i.0), sym next.0, omega (arith, w.count-is, i.2))
      | else-following-eq0 w ↦
          let none = none_yet 0 c.next_following-following.result w.if-following-eq0.false in
          (omega (arith, w.count-is, next.1, none, i.0), sym next.0, omega (arith, w.count-is, i.2))
    ]

pub returns-clause-count : goal.returns-clause-count
returns-clause-count c =
    c.loop-byte.invariant.0 ∙ ap (completed 0) (all_taken 0 c.args.bytes.now c.loop-byte.byte-index c.loop-byte-test.false) ∙ counted c.args.bytes.now
