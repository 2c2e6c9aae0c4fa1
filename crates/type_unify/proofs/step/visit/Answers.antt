use Rattle.std.proofs.Common.{◌≡◌, true, false, refl}
use Rattle.type_unify.proofs.Visiting.{visits_same, visits_first, visits_second, visits_clash, visits_parts}
use Rattle.type_unify.proofs.step.visit.Goals as goal
use Rattle.type_unify.proofs.step.visit.Goals.{else-is_row-via-then-is_row+else-is_row-2, else-is_row-via-else-is_row}

pub returns-then-a-b : goal.returns-then-a-b
returns-then-a-b c = visits_same _ _ _ _ c.if-a-b.true

pub returns-then-is_variable : goal.returns-then-is_variable
returns-then-is_variable c =
    visits_first _ _ _ _ _ c.shape_at-first.ensures (c.if-is_variable.ensures.0 refl) c.requires.first c.requires.second c.if-a-b.false c.requires.second_end

pub returns-then-is_variable-2 : goal.returns-then-is_variable-2
returns-then-is_variable-2 c =
    visits_second _ _ _ _ _ c.shape_at-second.ensures (c.if-is_variable-2.ensures.0 refl) c.requires.first c.requires.second c.if-a-b.false c.requires.first_end

pub returns-then-not-same_head : goal.returns-then-not-same_head
returns-then-not-same_head c =
    visits_clash _ _ _ _ _ _ c.shape_at-first.ensures c.shape_at-second.ensures c.requires.first c.requires.second
    (λ h. let e : false ≡ true = c.if-is_variable.ensures.1 h in cc e)
    (λ h. let e : false ≡ true = c.if-is_variable-2.ensures.1 h in cc e)
    (λ h k. elim c.else-is_row.branch [
      | else-is_row-via-then-is_row+else-is_row-2 w ↦ (let e : false ≡ true = w.if-is_row-2.ensures.1 k in cc e)
      | else-is_row-via-else-is_row w ↦ (let e : false ≡ true = w.if-is_row.ensures.1 h in cc e)
    ])
    (λ h. let e : false ≡ true = c.if-not-same_head.ensures.1 h in cc e)

pub returns : goal.returns
returns c =
    visits_parts _ _ _ _ _ _ _ c.shape_at-first.ensures c.shape_at-second.ensures c.requires.first c.requires.second c.requires.apart
    (c.if-not-same_head.ensures.0 refl) c.in_ok-push_pairs.ensures
