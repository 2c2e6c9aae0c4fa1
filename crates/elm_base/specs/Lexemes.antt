-- A token as contracts see it.
use Rattle.std.specs.Prelude.{ℕ, List}
use Rattle.elm_base.specs.declared.token.At.{At}
use Rattle.elm_base.specs.declared.token.Token.{Token}
use Rattle.elm_base.specs.declared.token.TokenKind.{TokenKind}

-- a token without where its spelling lies in memory: its kind, its spelling, the place of its first char
pub record Lexeme : Type 0 where
  pub kind : TokenKind
  pub text : List ℕ
  pub at : At

abbrev pub lexeme : Token → Lexeme
lexeme t = record { kind = t.kind; text = t.text.now; at = record { line = t.line; column = t.column } }
