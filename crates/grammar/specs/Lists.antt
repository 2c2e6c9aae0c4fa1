-- Lists of items, and the function values that read one.
use Rattle.std.specs.Prelude.{◌≡◌, List, [], ◌∷◌, ◌++◌, Result, Some}
use denote.Ref.{MutBor}
use Rattle.elm_base.specs.declared.memory.Halt.{Halt}
use Rattle.elm_base.specs.Lexemes.{Lexeme}
use Rattle.grammar.specs.declared.cursor.NoTree.{NoTree}
use Rattle.grammar.specs.declared.terminal.Terminal.{Terminal}
use Rattle.grammar.specs.declared.terminal.Terminal.TheVariants as k
use Rattle.grammar.specs.Reader.{Parser, Reads, mark, many, ◌⊗◌, ◌▷◌, ◌<$>◌}

-- one, and more as long as the next token is one of these
unfoldable pub some : {A : Type 0} → List Terminal → Parser A → Parser (List A)
some set p = (λ x. x.0 ∷ x.1) <$> p ⊗ many set p

-- one or more, with commas between
unfoldable pub separated : {A : Type 0} → Parser A → Parser (List A)
separated p = (λ x. x.0 ∷ x.1) <$> p ⊗ many (k.Comma ∷ []) (mark k.Comma ▷ p)

-- it takes tokens from the front, at least one
abbrev pub TakesSome : {A : Type 0} → Parser A → Type 0
TakesSome {A} p =
    (ts rest : List Lexeme) (x : A) → p ts ≡ Some (x, rest) → (t : Lexeme) × (us : List Lexeme) × (ts ≡ t ∷ (us ++ rest))

-- It may be called always, and reads what the parser reads, which takes at least one token.
pub record ReadsItems {A : Type 0} (p : Parser A) (pre : MutBor (List Lexeme) → Type 0)
    (post : MutBor (List Lexeme) → Result A (Halt NoTree) → MutBor (List Lexeme) → Type 0) : Type 0 where
  pub callable : (old : MutBor (List Lexeme)) → pre old
  pub reads : (old new : MutBor (List Lexeme)) (r : Result A (Halt NoTree)) → post old r new → Reads (p old.now) r new.now
  pub takes : TakesSome p

-- it reads what some parser reads
abbrev pub IsReader : {A : Type 0} → (MutBor (List Lexeme) → Type 0) → (MutBor (List Lexeme) → Result A (Halt NoTree) → MutBor (List Lexeme) → Type 0) → Type 0
IsReader {A} pre post = (p : Parser A) × ReadsItems p pre post
