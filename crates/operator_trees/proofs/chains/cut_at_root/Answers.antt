use Rattle.std.proofs.Common.{refl, sym, ◌≡◌, ◌-◌, ◌≤◌, ◌++◌, length, ◌∙◌, arith}
use Rattle.std.proofs.lemmas.List.{take-append-drop}
use Rattle.operator_trees.proofs.Building.{no_root, root_within, root_there, cut_of_root}
use Rattle.operator_trees.proofs.chains.cut_at_root.Goals as goal

pub returns-in_err-left-clause-clash : goal.returns-in_err-left-clause-clash
returns-in_err-left-clause-clash c some none = no_root _ _ some (sym c.root.ensures ∙ c.in_err-left.was)

pub overflow_sub-operators : goal.overflow_sub-operators
overflow_sub-operators c = root_within _ _ _ (sym c.root.ensures ∙ c.in_ok-left.was)

pub returns-in_err-root-clause-clash : goal.returns-in_err-root-clause-clash
returns-in_err-root-clause-clash c some none =
    let found = sym c.root.ensures ∙ c.in_ok-left.was in
    let within : c.in_ok-left.left ≤ length c.args.operators.now = root_within _ _ _ found in
    let back = c.split_at.ensures.back_len in
    let empty = c.in_err-root.ensures.cases in
    absurd (root_there c.args.levels.now.declared c.args.operators.now c.in_ok-left.left found (omega (arith, back, empty, within)))

pub returns-clause-cut : goal.returns-clause-cut
returns-clause-cut c =
    let found = sym c.root.ensures ∙ c.in_ok-left.was in
    let within : c.in_ok-left.left ≤ length c.args.operators.now = root_within _ _ _ found in
    let back = c.split_at.ensures.back_len in
    let parts : c.args.operators.now ≡ c.split_at.result.0.now ++ c.split_at.result.1.now =
    rw (c.split_at.ensures.front, c.split_at.ensures.back) (sym (take-append-drop (length c.args.operators.now - c.in_ok-left.left) c.args.operators.now)) in
    let long : length c.split_at.result.1.now ≡ c.in_ok-left.left = omega (arith, back, within) in
    cut_of_root _ _ _ found _ _ _ _ parts long c.in_ok-root.ensures.cases.0
