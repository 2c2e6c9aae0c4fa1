-- A function value that parses expressions to a depth, or atoms alone.
use Rattle.std.specs.Prelude.{ℕ, Bool, List, Result}
use Rattle.std.specs.declared.alloc.Global.{Global}
use denote.Ref.{MutBor}
use Rattle.elm_base.specs.declared.memory.Halt.{Halt}
use Rattle.elm_base.specs.declared.tree.Expr.{Expr}
use Rattle.elm_base.specs.Lexemes.{Lexeme}
use Rattle.grammar.specs.declared.cursor.NoTree.{NoTree}
use Rattle.grammar.specs.Reader.{Reads}
use Rattle.expr_grammar.specs.ExprReader.{tree_at}

pub record ReadsExprs (depth : ℕ) (pre : Global → Bool → ℕ → MutBor (List Lexeme) → Type 0)
    (post : Global → Bool → ℕ → MutBor (List Lexeme) → Result Expr (Halt NoTree) → MutBor (List Lexeme) → Type 0) : Type 0 where
  pub callable : (alloc : Global) (alone : Bool) (old : MutBor (List Lexeme)) → pre alloc alone depth old
  pub reads : (alloc : Global) (alone : Bool) (old new : MutBor (List Lexeme)) (r : Result Expr (Halt NoTree)) → post alloc alone depth old r new
      → Reads (tree_at alone depth old.now) r new.now
