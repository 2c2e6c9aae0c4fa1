-- Which blocks have more definitions than a block may have.
use Rattle.std.specs.Prelude.{ℕ, min, List, [], ◌∷◌, drop, map, Option, Some, None}
use Rattle.elm_base.specs.declared.token.At.{At}
use Rattle.elm_base.specs.declared.tree.Expr.{Expr}
use Rattle.elm_base.specs.declared.tree.Set.{Set}
use Rattle.elm_base.specs.declared.tree.Declaration.{Declaration}
use Rattle.elm_base.specs.declared.tree.Declaration.TheOpen as tree
use Rattle.elm_base.specs.declared.tree.Declaration.TheFolds.{fold-Expr, fold-Declaration, fold-Set}

-- a block has at most so many definitions
abbrev pub most_definitions : ℕ
most_definitions = 5000

-- ---- lines

abbrev pub earlier : Option ℕ → Option ℕ → Option ℕ
earlier None b = b
earlier (Some a) None = Some a
earlier (Some a) (Some b) = Some (min a b)

-- the least of the lines, if there is one
abbrev pub earliest : List (Option ℕ) → Option ℕ
earliest [] = None
earliest (x ∷ xs) = earlier x (earliest xs)

-- those that are there
abbrev pub present : List (Option ℕ) → List ℕ
present [] = []
present (Some x ∷ xs) = x ∷ present xs
present (None ∷ xs) = present xs

abbrev pub first_of : List ℕ → Option ℕ
first_of [] = None
first_of (x ∷ xs) = Some x

-- the line of the first definition that is too many
abbrev pub over : List (Option ℕ) → Option ℕ
over lines = first_of (drop most_definitions (present lines))

-- ---- declarations

-- What is known of a declaration: its line, where it counts as a definition of its block; and the first line inside it at which a
-- block of a `let` has too many.
pub record Sizes : Type 0 where
  pub defines : Option ℕ
  pub large : Option ℕ

-- definitions count, with patterns too, and what a port carries outwards
abbrev pub declaration_step : tree.Declaration-F Sizes (Option ℕ) (Option ℕ) → Sizes
declaration_step (tree.Definition at name patterns body) = record { defines = Some at.line; large = body }
declaration_step (tree.PatternDefinition at pattern body) = record { defines = Some at.line; large = body }
declaration_step (tree.PortDefinition at name body) = record { defines = Some at.line; large = body }
declaration_step _ = record { defines = None; large = None }

-- of an expression, from those of its parts
abbrev pub expr_step : tree.Expr-F Sizes (Option ℕ) (Option ℕ) → Option ℕ
expr_step (tree.Chain at operands operators) = earliest operands
expr_step (tree.Binary at operator left right) = earlier left right
expr_step (tree.Negate at inner) = inner
expr_step (tree.Call at function arguments) = earlier function (earliest arguments)
expr_step (tree.Access at from label) = from
expr_step (tree.Brackets at inner) = inner
expr_step (tree.Tuple at parts) = earliest parts
expr_step (tree.List at parts) = earliest parts
expr_step (tree.Range at low high) = earlier low high
expr_step (tree.Fields at fields) = earliest fields
expr_step (tree.Extend at from fields) = earlier from (earliest fields)
expr_step (tree.Update at from fields) = earlier from (earliest fields)
expr_step (tree.Remove at from label fields) = earlier from (earliest fields)
expr_step (tree.Lambda at patterns body) = body
expr_step (tree.If at condition first second) = earlier condition (earlier first second)
expr_step (tree.Guards at branches) = earliest (map (λ branch. earlier branch.0 branch.1) branches)
expr_step (tree.Let at definitions body) =
    earlier (over (map (λ x. x.defines) definitions)) (earlier (earliest (map (λ x. x.large) definitions)) body)
expr_step (tree.Case at scrutinee branches) = earlier scrutinee (earliest (map (λ branch. branch.1) branches))
expr_step _ = None

-- the first line at which a block of a `let` has too many definitions
abbrev pub large_expr : Expr → Option ℕ
large_expr = fold-Expr Sizes (Option ℕ) (Option ℕ) declaration_step expr_step (λ set. set.value)

abbrev pub large_set : Set → Option ℕ
large_set = fold-Set Sizes (Option ℕ) (Option ℕ) declaration_step expr_step (λ set. set.value)

abbrev pub sizes : Declaration → Sizes
sizes = fold-Declaration Sizes (Option ℕ) (Option ℕ) declaration_step expr_step (λ set. set.value)

-- the line of a declaration that counts as a definition
abbrev pub defined_at : Declaration → Option ℕ
defined_at x = (sizes x).defines

abbrev pub large_declaration : Declaration → Option ℕ
large_declaration x = (sizes x).large
