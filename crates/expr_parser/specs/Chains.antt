-- What stands in a chain behind its first operand, by kind.
use Rattle.std.specs.Prelude.{◌≡◌, ◌≢◌, List, [], ◌∷◌, ◌++◌, map, Result, Ok, Err}
use Rattle.elm_base.specs.declared.memory.Halt.{Halt}
use Rattle.elm_base.specs.declared.memory.Halt.TheVariants as halt
use Rattle.elm_base.specs.declared.tree.Operator.{Operator}
use Rattle.elm_base.specs.declared.tree.Expr.{Expr}
use Rattle.grammar.specs.declared.cursor.NoTree.{NoTree}
use Rattle.grammar.specs.Reader.{Parser, ◌<$>◌}

-- the operators and the operands
abbrev pub apart : List (Operator × Expr) → List Operator × List Expr
apart links = (map (λ link. link.0) links, map (λ link. link.1) links)

abbrev pub separately : Parser (List (Operator × Expr)) → Parser (List Operator × List Expr)
separately p = apart <$> p

-- what was read stands behind the items, unless memory ran out
abbrev pub Added : {A : Type 0} → Result A (Halt NoTree) → List A → List A → Result (Unit {0}) (Halt NoTree) → Type 0
Added {A} read old new (Ok done) = (x : A) × (read ≡ Ok x) × (new ≡ old ++ x ∷ [])
Added read old new (Err cause) = cause ≢ halt.NoMemory → read ≡ Err cause
