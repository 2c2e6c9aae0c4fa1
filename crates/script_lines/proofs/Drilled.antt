-- The script of a drill, line by line.
use Rattle.std.proofs.Common.{◌≡◌, ◌<◌, ◌≤◌, ◌+◌, ◌-◌, ◌++◌, ◌∙◌, arith, ℕ, zero, suc, List, [], ◌∷◌, sym, ap, refl, append_assoc}
use Rattle.std.proofs.lemmas.List.{append-nil}
use Rattle.script_lines.specs.Drill.{drill_line, drill_lines, drawn_text}

-- the first of the lines that are left
first_line : (more made x : ℕ) → drawn_text (suc more) made x ≡ ((drill_line made x).text ++ 10 ∷ []) ++ drawn_text more (made + 1) (drill_line made x).x
unfolding drill_lines
first_line more made x = refl

no_line : (made x : ℕ) → drawn_text 0 made x ≡ []
unfolding drill_lines
no_line made x = refl

-- a line was appended
pub drilled_more : (made x y : ℕ) (out next start : List ℕ) → made < 2000 → next ≡ (out ++ (drill_line made x).text) ++ 10 ∷ [] → y ≡ (drill_line made x).x → out ++ drawn_text (2000 - made) made x ≡ start → next ++ drawn_text (2000 - (made + 1)) (made + 1) y ≡ start
drilled_more made x y out next start within is moved sum =
    let text = (drill_line made x).text in
    let more : ℕ = 2000 - (made + 1) in
    let left : 2000 - made ≡ suc more = omega arith in
    let rest : List ℕ = drawn_text more (made + 1) (drill_line made x).x in
    ap (λ z. next ++ drawn_text more (made + 1) z) moved
    ∙ ap (λ o. o ++ rest) (is ∙ append_assoc out text (10 ∷ []))
    ∙ append_assoc out (text ++ 10 ∷ []) rest
    ∙ ap (λ t. out ++ t) (sym (ap (λ n. drawn_text n made x) left ∙ first_line more made x))
    ∙ sum

-- all lines were appended
pub drilled_all : (made x : ℕ) (out start : List ℕ) → 2000 ≤ made → out ++ drawn_text (2000 - made) made x ≡ start → out ≡ start
drilled_all made x out start done sum =
    let none : 2000 - made ≡ 0 = omega arith in
    sym (append-nil out) ∙ ap (λ t. out ++ t) (sym (ap (λ n. drawn_text n made x) none ∙ no_line made x)) ∙ sum
