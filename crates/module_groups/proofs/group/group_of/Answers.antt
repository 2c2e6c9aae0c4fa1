use Rattle.std.proofs.Common.{List, [], ◌∷◌, ◌++◌, ℕ, sym, ap, ◌∙◌}
use Rattle.std.proofs.lemmas.List.{append-nil}
use Rattle.std.proofs.lemmas.Bool.{cond-true, cond-false}
use Rattle.module_groups.specs.Search.{members_below, together}
use Rattle.module_groups.proofs.Members.{kept_longer}
use Rattle.module_groups.proofs.group.group_of.Goals as goal
use Rattle.module_groups.proofs.group.group_of.Goals.{then-are_together+in_ok-push, else-are_together}

pub loop-b-preserved : goal.loop-b-preserved
loop-b-preserved c =
    let b = c.loop-b.b in
    let table = c.args.reached.now in
    let a = c.args.a in
    let before = members_below table a b in
    elim c.if-are_together.branch [
      | then-are_together+in_ok-push w ↦
          w.members-is ∙ w.in_ok-push.ensures.ok ∙ ap (λ (xs : List ℕ). xs ++ b ∷ []) c.loop-b.invariant
          ∙ sym (kept_longer (together table a) b ∙ ap (λ (xs : List ℕ). before ++ xs)
          (cond-true (together table a b) (b ∷ []) [] (sym c.are_together.ensures ∙ w.if-are_together.true)))
      | else-are_together w ↦
          w.members-is ∙ c.loop-b.invariant
          ∙ sym (kept_longer (together table a) b ∙ ap (λ (xs : List ℕ). before ++ xs)
          (cond-false (together table a b) (b ∷ []) [] (sym c.are_together.ensures ∙ w.if-are_together.false)) ∙ append-nil before)
    ]
