-- The nesting of each form of expression and definition.
use Rattle.std.proofs.Common.{◌≡◌, ℕ, ◌+◌, max, List, [], ◌∷◌, length, map, sym, ◌∙◌, ap}
use Rattle.elm_base.specs.declared.token.At.{At}
use Rattle.elm_base.specs.declared.tree.Operator.{Operator}
use Rattle.elm_base.specs.declared.tree.TypeTree.{TypeTree}
use Rattle.elm_base.specs.declared.tree.Pattern.{Pattern}
use Rattle.elm_base.specs.declared.tree.Set.{Set, roll-Set}
use Rattle.elm_base.specs.declared.tree.Expr.{Expr}
use Rattle.elm_base.specs.declared.tree.Expr.TheVariants as e
use Rattle.elm_base.specs.declared.tree.Declaration.{Declaration}
use Rattle.elm_base.specs.declared.tree.Declaration.TheVariants as d
use Rattle.elm_base.specs.declared.tree.Declaration.TheOpen as tree
use Rattle.elm_base.specs.declared.tree.Declaration.TheFolds.{fold-roll-Expr, fold-roll-Declaration, fold-roll-Set}
use Rattle.tree_nesting.specs.Nesting.{most, around, type_nesting, pattern_nesting}
use Rattle.tree_nesting.specs.ExpressionNesting.{expr_step, declaration_step, expr_nesting, declaration_nesting, set_nesting, guards_layer, guards_of, branches_layer, branches_of}
use Rattle.tree_nesting.proofs.NestingLaws.{map_twice}

pub of_chain : (at : At) (xs : List Expr) (operators : List Operator) → expr_nesting (e.Chain at xs operators) ≡ length operators + most (map expr_nesting xs)
of_chain at xs operators =
    ap expr_nesting (sym (e.rolls-Chain at xs operators)) ∙ fold-roll-Expr ℕ ℕ ℕ declaration_step expr_step (λ set. set.value) (tree.Chain at xs operators)

pub of_negate : (at : At) (x : Expr) → expr_nesting (e.Negate at x) ≡ around (expr_nesting x ∷ [])
of_negate at x =
    ap expr_nesting (sym (e.rolls-Negate at x)) ∙ fold-roll-Expr ℕ ℕ ℕ declaration_step expr_step (λ set. set.value) (tree.Negate at x)

pub of_call : (at : At) (f : Expr) (xs : List Expr) → expr_nesting (e.Call at f xs) ≡ length (map expr_nesting xs) + most (expr_nesting f ∷ map expr_nesting xs)
of_call at f xs =
    ap expr_nesting (sym (e.rolls-Call at f xs)) ∙ fold-roll-Expr ℕ ℕ ℕ declaration_step expr_step (λ set. set.value) (tree.Call at f xs)

pub of_access : (at : At) (x : Expr) (label : List ℕ) → expr_nesting (e.Access at x label) ≡ around (expr_nesting x ∷ [])
of_access at x label =
    ap expr_nesting (sym (e.rolls-Access at x label)) ∙ fold-roll-Expr ℕ ℕ ℕ declaration_step expr_step (λ set. set.value) (tree.Access at x label)

pub of_brackets : (at : At) (x : Expr) → expr_nesting (e.Brackets at x) ≡ around (expr_nesting x ∷ [])
of_brackets at x =
    ap expr_nesting (sym (e.rolls-Brackets at x)) ∙ fold-roll-Expr ℕ ℕ ℕ declaration_step expr_step (λ set. set.value) (tree.Brackets at x)

pub of_tuple : (at : At) (xs : List Expr) → expr_nesting (e.Tuple at xs) ≡ around (map expr_nesting xs)
of_tuple at xs =
    ap expr_nesting (sym (e.rolls-Tuple at xs)) ∙ fold-roll-Expr ℕ ℕ ℕ declaration_step expr_step (λ set. set.value) (tree.Tuple at xs)

pub of_list : (at : At) (xs : List Expr) → expr_nesting (e.List at xs) ≡ around (map expr_nesting xs)
of_list at xs =
    ap expr_nesting (sym (e.rolls-List at xs)) ∙ fold-roll-Expr ℕ ℕ ℕ declaration_step expr_step (λ set. set.value) (tree.List at xs)

pub of_range : (at : At) (a : Expr) (b : Expr) → expr_nesting (e.Range at a b) ≡ around (expr_nesting a ∷ expr_nesting b ∷ [])
of_range at a b =
    ap expr_nesting (sym (e.rolls-Range at a b)) ∙ fold-roll-Expr ℕ ℕ ℕ declaration_step expr_step (λ set. set.value) (tree.Range at a b)

pub of_fields : (at : At) (sets : List Set) → expr_nesting (e.Fields at sets) ≡ around (map set_nesting sets)
of_fields at sets =
    ap expr_nesting (sym (e.rolls-Fields at sets)) ∙ fold-roll-Expr ℕ ℕ ℕ declaration_step expr_step (λ set. set.value) (tree.Fields at sets)

pub of_extend : (at : At) (x : Expr) (sets : List Set) → expr_nesting (e.Extend at x sets) ≡ around (expr_nesting x ∷ map set_nesting sets)
of_extend at x sets =
    ap expr_nesting (sym (e.rolls-Extend at x sets)) ∙ fold-roll-Expr ℕ ℕ ℕ declaration_step expr_step (λ set. set.value) (tree.Extend at x sets)

pub of_update : (at : At) (x : Expr) (sets : List Set) → expr_nesting (e.Update at x sets) ≡ around (expr_nesting x ∷ map set_nesting sets)
of_update at x sets =
    ap expr_nesting (sym (e.rolls-Update at x sets)) ∙ fold-roll-Expr ℕ ℕ ℕ declaration_step expr_step (λ set. set.value) (tree.Update at x sets)

pub of_remove : (at : At) (x : Expr) (label : List ℕ) (sets : List Set) → expr_nesting (e.Remove at x label sets) ≡ around (expr_nesting x ∷ map set_nesting sets)
of_remove at x label sets =
    ap expr_nesting (sym (e.rolls-Remove at x label sets)) ∙ fold-roll-Expr ℕ ℕ ℕ declaration_step expr_step (λ set. set.value) (tree.Remove at x label sets)

pub of_lambda : (at : At) (ps : List Pattern) (x : Expr) → expr_nesting (e.Lambda at ps x) ≡ max (around (map pattern_nesting ps)) (length ps + expr_nesting x)
of_lambda at ps x =
    ap expr_nesting (sym (e.rolls-Lambda at ps x)) ∙ fold-roll-Expr ℕ ℕ ℕ declaration_step expr_step (λ set. set.value) (tree.Lambda at ps x)

pub of_if : (at : At) (a : Expr) (b : Expr) (c : Expr) → expr_nesting (e.If at a b c) ≡ around (expr_nesting a ∷ expr_nesting b ∷ expr_nesting c ∷ [])
of_if at a b c =
    ap expr_nesting (sym (e.rolls-If at a b c)) ∙ fold-roll-Expr ℕ ℕ ℕ declaration_step expr_step (λ set. set.value) (tree.If at a b c)

pub of_guards : (at : At) (branches : List (Expr × Expr)) → expr_nesting (e.Guards at branches) ≡ around (map (λ branch. max (expr_nesting branch.0) (expr_nesting branch.1)) branches)
of_guards at branches =
    ap expr_nesting (sym (e.rolls-Guards at branches)) ∙ fold-roll-Expr ℕ ℕ ℕ declaration_step expr_step (λ set. set.value) (tree.Guards at branches)
    ∙ ap around (map_twice (λ branch. max branch.0 branch.1) (λ (branch : Expr × Expr). (expr_nesting branch.0, expr_nesting branch.1)) branches)

pub of_let : (at : At) (definitions : List Declaration) (x : Expr) → expr_nesting (e.Let at definitions x) ≡ around (expr_nesting x ∷ map declaration_nesting definitions)
of_let at definitions x =
    ap expr_nesting (sym (e.rolls-Let at definitions x)) ∙ fold-roll-Expr ℕ ℕ ℕ declaration_step expr_step (λ set. set.value) (tree.Let at definitions x)

pub of_case : (at : At) (x : Expr) (branches : List (Pattern × Expr)) → expr_nesting (e.Case at x branches) ≡ around (expr_nesting x ∷ map (λ branch. max (pattern_nesting branch.0) (expr_nesting branch.1)) branches)
of_case at x branches =
    ap expr_nesting (sym (e.rolls-Case at x branches)) ∙ fold-roll-Expr ℕ ℕ ℕ declaration_step expr_step (λ set. set.value) (tree.Case at x branches)
    ∙ ap (λ ns. around (expr_nesting x ∷ ns)) (map_twice (λ branch. max (pattern_nesting branch.0) branch.1) (λ (branch : Pattern × Expr). (branch.0, expr_nesting branch.1)) branches)

-- ---- definitions and fields

pub of_annotation : (at : At) (name : List ℕ) (x : TypeTree) → declaration_nesting (d.Annotation at name x) ≡ type_nesting x
of_annotation at name x =
    ap declaration_nesting (sym (d.rolls-Annotation at name x)) ∙ fold-roll-Declaration ℕ ℕ ℕ declaration_step expr_step (λ set. set.value) (tree.Annotation at name x)

pub of_definition : (at : At) (name : List ℕ) (ps : List Pattern) (x : Expr) → declaration_nesting (d.Definition at name ps x) ≡ max (most (map pattern_nesting ps)) (length ps + expr_nesting x)
of_definition at name ps x =
    ap declaration_nesting (sym (d.rolls-Definition at name ps x)) ∙ fold-roll-Declaration ℕ ℕ ℕ declaration_step expr_step (λ set. set.value) (tree.Definition at name ps x)

pub of_pattern_definition : (at : At) (p : Pattern) (x : Expr) → declaration_nesting (d.PatternDefinition at p x) ≡ max (pattern_nesting p) (expr_nesting x)
of_pattern_definition at p x =
    ap declaration_nesting (sym (d.rolls-PatternDefinition at p x)) ∙ fold-roll-Declaration ℕ ℕ ℕ declaration_step expr_step (λ set. set.value) (tree.PatternDefinition at p x)

pub of_set : (at : At) (label : List ℕ) (x : Expr) → set_nesting (roll-Set (record { at = at; label = label; value = x })) ≡ expr_nesting x
of_set at label x = fold-roll-Set ℕ ℕ ℕ declaration_step expr_step (λ set. set.value) (record { at = at; label = label; value = x })

pub of_field : (set : Set) → set_nesting set ≡ expr_nesting set.value
of_field set = of_set set.at set.label set.value

pub guards_there : (at : At) (branches : List (Expr × Expr)) → guards_of (e.Guards at branches) ≡ branches
guards_there at branches = ap guards_layer (e.outs-Guards at branches)

pub branches_there : (at : At) (x : Expr) (branches : List (Pattern × Expr)) → branches_of (e.Case at x branches) ≡ branches
branches_there at x branches = ap branches_layer (e.outs-Case at x branches)
