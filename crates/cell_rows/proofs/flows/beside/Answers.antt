use Rattle.std.proofs.Common.{◌∙◌, ap, sym, arith, ◌++◌, ◌∷◌, [], List, ℕ}
use Rattle.std.proofs.lemmas.List.FromFn.{map-range_with_len_more}
use Rattle.cell_rows.specs.Flows.{ordered, row_beside}
use Rattle.cell_rows.proofs.flows.beside.Goals as goal

pub loop-y-preserved : goal.loop-y-preserved
loop-y-preserved c =
    let items = ordered c.args.backwards c.args.items.now in
    let more = map-range_with_len_more (row_beside items) 0 c.loop-y.y c.loop-y.y (omega arith) in
    c.in_ok-push.ensures.ok
    ∙ ap (λ (row : List ℕ). c.loop-y.rows ++ row ∷ []) c.in_ok-joined_row.ensures
    ∙ ap (λ (rows : List (List ℕ)). rows ++ row_beside items c.loop-y.y ∷ []) c.loop-y.invariant
    ∙ sym more
