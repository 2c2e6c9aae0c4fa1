-- Which expressions end in a multi-way `if`.
use Rattle.std.proofs.Common.{◌≡◌, Bool, true, false, not, List, [], ◌∷◌, map, sym, ◌∙◌, ap, subst}
use Rattle.elm_base.specs.declared.token.At.{At}
use Rattle.elm_base.specs.declared.tree.Operator.{Operator}
use Rattle.elm_base.specs.declared.tree.Pattern.{Pattern}
use Rattle.elm_base.specs.declared.tree.Expr.{Expr}
use Rattle.elm_base.specs.declared.tree.Expr.TheVariants as e
use Rattle.elm_base.specs.declared.tree.Declaration.{Declaration}
use Rattle.elm_base.specs.declared.tree.Declaration.TheOpen as open_
use Rattle.elm_base.specs.declared.tree.Declaration.TheFolds.{fold-roll-Expr}
use Rattle.expr_grammar.specs.Expressions.{chained, ends_step, ends_in_guards, last_of}
use Rattle.grammar.proofs.Ends.{Last}
use Rattle.tree_nesting.proofs.NestingLaws.{map_twice}

-- an expression that doesn't
abbrev pub Closed : Expr → Type 0
Closed x = not (ends_in_guards x) ≡ true

closed_as : (x : Expr) (b : Bool) → ends_in_guards x ≡ b → Closed x → not b ≡ true
closed_as x b e h = subst (λ (z : Bool). not z ≡ true) e h

pub of_lambda : (at : At) (parameters : List Pattern) (body : Expr) → ends_in_guards (e.Lambda at parameters body) ≡ ends_in_guards body
of_lambda at parameters body =
    ap ends_in_guards (sym (e.rolls-Lambda at parameters body)) ∙ fold-roll-Expr Bool Bool Bool (λ declaration. false) ends_step (λ set. false) (open_.Lambda at parameters body)

pub of_if : (at : At) (a b c : Expr) → ends_in_guards (e.If at a b c) ≡ ends_in_guards c
of_if at a b c = ap ends_in_guards (sym (e.rolls-If at a b c)) ∙ fold-roll-Expr Bool Bool Bool (λ declaration. false) ends_step (λ set. false) (open_.If at a b c)

pub of_guards : (at : At) (branches : List (Expr × Expr)) → ends_in_guards (e.Guards at branches) ≡ true
of_guards at branches =
    ap ends_in_guards (sym (e.rolls-Guards at branches)) ∙ fold-roll-Expr Bool Bool Bool (λ declaration. false) ends_step (λ set. false) (open_.Guards at branches)

pub of_let : (at : At) (definitions : List Declaration) (body : Expr) → ends_in_guards (e.Let at definitions body) ≡ ends_in_guards body
of_let at definitions body =
    ap ends_in_guards (sym (e.rolls-Let at definitions body)) ∙ fold-roll-Expr Bool Bool Bool (λ declaration. false) ends_step (λ set. false) (open_.Let at definitions body)

pub of_case : (at : At) (scrutinee : Expr) (branches : List (Pattern × Expr)) → ends_in_guards (e.Case at scrutinee branches) ≡ last_of (map (λ branch. ends_in_guards branch.1) branches)
of_case at scrutinee branches =
    ap ends_in_guards (sym (e.rolls-Case at scrutinee branches))
    ∙ fold-roll-Expr Bool Bool Bool (λ declaration. false) ends_step (λ set. false) (open_.Case at scrutinee branches)
    ∙ ap last_of (map_twice (λ branch. branch.1) (λ (branch : Pattern × Expr). (branch.0, ends_in_guards branch.1)) branches)

pub of_chain : (at : At) (operands : List Expr) (operators : List Operator) → ends_in_guards (e.Chain at operands operators) ≡ last_of (map ends_in_guards operands)
of_chain at operands operators =
    ap ends_in_guards (sym (e.rolls-Chain at operands operators)) ∙ fold-roll-Expr Bool Bool Bool (λ declaration. false) ends_step (λ set. false) (open_.Chain at operands operators)

last_passes : {A : Type 0} (f : A → Bool) (xs : List A) → not (last_of (map f xs)) ≡ true → Last (λ x. not (f x) ≡ true) xs
last_passes f [] h = tt
last_passes f (x ∷ []) h = h
last_passes f (x ∷ y ∷ ys) h = last_passes f (y ∷ ys) h

-- ---- the part that an expression ends in doesn't either

pub lambda_closed : (at : At) (parameters : List Pattern) (body : Expr) → Closed (e.Lambda at parameters body) → Closed body
lambda_closed at parameters body h = closed_as _ _ (of_lambda at parameters body) h

pub if_closed : (at : At) (a b c : Expr) → Closed (e.If at a b c) → Closed c
if_closed at a b c h = closed_as _ _ (of_if at a b c) h

pub guards_closed : (at : At) (branches : List (Expr × Expr)) → Closed (e.Guards at branches) → ⊥
guards_closed at branches h = let none = closed_as _ _ (of_guards at branches) h in cc

pub let_closed : (at : At) (definitions : List Declaration) (body : Expr) → Closed (e.Let at definitions body) → Closed body
let_closed at definitions body h = closed_as _ _ (of_let at definitions body) h

pub case_closed : (at : At) (scrutinee : Expr) (branches : List (Pattern × Expr)) → Closed (e.Case at scrutinee branches) → Last (λ branch. Closed branch.1) branches
case_closed at scrutinee branches h = last_passes (λ branch. ends_in_guards branch.1) branches (closed_as _ _ (of_case at scrutinee branches) h)

pub chain_closed : (at : At) (first : Expr) (links : List (Operator × Expr)) → Closed (chained (at, (first, links))) → Last (λ link. Closed link.1) links
chain_closed at first [] h = tt
chain_closed at first (x ∷ xs) h =
    let all = of_chain at (first ∷ map (λ link. link.1) (x ∷ xs)) (map (λ link. link.0) (x ∷ xs)) in
    let twice = ap last_of (map_twice ends_in_guards (λ (link : Operator × Expr). link.1) (x ∷ xs)) in
    last_passes (λ link. ends_in_guards link.1) (x ∷ xs) (closed_as _ _ (all ∙ twice) h)
