use Rattle.std.proofs.Common.{subst, List, ℕ, ◌≡◌, ◌∷◌, ◌++◌, ◌∙◌, ◌+◌, ap, sym, length, drop}
use Rattle.script_lines.specs.Lines.{HasNoNewline, shortened}
use Rattle.script_lines.proofs.Kept.{not_both, left_behind, within_left, says_line, short_behind}
use Rattle.script_lines.proofs.lines.Lines.next.Goals as goal

pub invariant_of-self : goal.invariant_of-self
invariant_of-self c =
    let at = c.self.inside.handed_out in
    let P : List ℕ → Type 0 = λ text. HasNoNewline text in
    (c.self.invariant.0, c.self.invariant.1, λ _. subst P (c.left_of.ensures ∙ ap (drop at) c.as_slice.ensures.value) c.in_default.ensures.none)

pub invariant_of-self-2 : goal.invariant_of-self-2
invariant_of-self-2 c =
    let bytes = c.self.inside.bytes.items in
    let at = c.self.inside.handed_out in
    let line = c.in-Some.line.now in
    let rest = c.in-Some.field-0-1.now in
    let whole : drop at bytes ≡ line ++ 10 ∷ rest = sym (c.left_of.ensures ∙ ap (drop at) c.as_slice.ensures.value) ∙ c.in-Some.ensures.whole in
    let left = left_behind bytes line rest at whole in (
      within_left bytes line rest at c.self.invariant.0 whole,
      ap shortened left ∙ short_behind (drop at bytes) line rest whole c.in-Some.ensures.first c.self.invariant.1 ∙ sym left,
      λ is_open. absurd (not_both c.self.inside.is_open is_open c.if-self.false),
    )

pub returns-clause-next : goal.returns-clause-next
returns-clause-next c =
    let bytes = c.self.inside.bytes.items in
    let at = c.self.inside.handed_out in
    let line = c.in-Some.line.now in
    let rest = c.in-Some.field-0-1.now in
    let whole : drop at bytes ≡ line ++ 10 ∷ rest = sym (c.left_of.ensures ∙ ap (drop at) c.as_slice.ensures.value) ∙ c.in-Some.ensures.whole in
    let left = left_behind bytes line rest at whole in
    (line, sym c.self.view_is ∙ whole ∙ ap (λ r. line ++ 10 ∷ r) (sym left), c.in-Some.ensures.first, c.in_ok-found.ensures)

pub returns-clause-says : goal.returns-clause-says
returns-clause-says c =
    let bytes = c.self.inside.bytes.items in
    let at = c.self.inside.handed_out in
    let line = c.in-Some.line.now in
    let rest = c.in-Some.field-0-1.now in
    let whole : drop at bytes ≡ line ++ 10 ∷ rest = sym (c.left_of.ensures ∙ ap (drop at) c.as_slice.ensures.value) ∙ c.in-Some.ensures.whole in
    let left = left_behind bytes line rest at whole in
    says_line c.args.self.now line (drop (at + (length line + 1)) bytes) c.in_ok-found.found
    (sym c.self.view_is ∙ whole ∙ ap (λ r. line ++ 10 ∷ r) (sym left))
    c.in-Some.ensures.first
    c.in_ok-found.ensures
