-- A function value that parses types to a depth.
use Rattle.std.specs.Prelude.{ℕ, List, Result}
use Rattle.std.specs.declared.alloc.Global.{Global}
use denote.Ref.{MutBor}
use Rattle.elm_base.specs.declared.memory.Halt.{Halt}
use Rattle.elm_base.specs.declared.tree.TypeTree.{TypeTree}
use Rattle.elm_base.specs.Lexemes.{Lexeme}
use Rattle.grammar.specs.declared.cursor.NoTree.{NoTree}
use Rattle.grammar.specs.Reader.{Reads}
use Rattle.pattern_parser.specs.TypeReader.{type_at}

pub record ReadsTypes (depth : ℕ) (pre : Global → ℕ → MutBor (List Lexeme) → Type 0)
    (post : Global → ℕ → MutBor (List Lexeme) → Result TypeTree (Halt NoTree) → MutBor (List Lexeme) → Type 0) : Type 0 where
  pub callable : (alloc : Global) (old : MutBor (List Lexeme)) → pre alloc depth old
  pub reads : (alloc : Global) (old new : MutBor (List Lexeme)) (r : Result TypeTree (Halt NoTree)) → post alloc depth old r new
      → Reads (type_at depth old.now) r new.now
