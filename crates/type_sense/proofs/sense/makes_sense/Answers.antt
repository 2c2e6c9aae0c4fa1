use Rattle.std.proofs.Common.{◌≡◌, ◌↔◌, Bool, true, List, ℕ, sym, ◌∙◌, ap, subst}
use Rattle.std.specs.List.{list_all}
use Rattle.written_sorts.specs.Forced.{marks_of, AreForced}
use Rattle.written_sorts.specs.Sorting.{MakesSense}
use Rattle.type_sense.specs.Judging.{judged}
use Rattle.type_sense.specs.WrittenOf.{written_of}
use Rattle.type_sense.proofs.Bridge.{tree_sense, more_forced}
use Rattle.type_sense.proofs.sense.makes_sense.Goals as goal

pub loop-turn-preserved : goal.loop-turn-preserved
loop-turn-preserved c =
    let tree = c.args.tree.now in
    let so = c.in_ok-found.ensures ∙ ap (λ (names : List (List ℕ)). judged (marks_of names) tree) c.as_slice.ensures in
    subst (λ (names : List (List ℕ)). AreForced (written_of tree) names) (sym c.in_ok-append.ensures)
    (more_forced tree c.loop-turn.marks c.in_ok-found.found so c.loop-turn.invariant)

pub returns-then-all_marked : goal.returns-then-all_marked
returns-then-all_marked c =
    let tree = c.args.tree.now in
    let marks = c.loop-turn.marks in
    let found = c.in_ok-found.found in
    let so = c.in_ok-found.ensures ∙ ap (λ (names : List (List ℕ)). judged (marks_of names) tree) c.as_slice.ensures in
    let all =
    ap (λ (names : List (List ℕ)). list_all (marks_of names) found.forced) (sym c.as_slice-in-loop-turn.ensures)
    ∙ ap (λ (names : List (List ℕ)). list_all (marks_of c.as_slice-in-loop-turn.result.now) names) (sym c.as_slice-in-loop-turn-2.ensures)
    ∙ sym c.all_marked.ensures ∙ c.if-all_marked.true in
    subst (λ (b : Bool). (b ≡ true) ↔ MakesSense (written_of tree)) (sym c.is_sense.ensures) (tree_sense tree marks found so c.loop-turn.invariant all)
