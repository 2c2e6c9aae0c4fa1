-- Parsers of what is made at a place that was read before, and of how many there are.
use Rattle.std.specs.Prelude.{ℕ, List, length}
use Rattle.elm_base.specs.declared.token.At.{At}
use Rattle.grammar.specs.Reader.{Parser, ◌<$>◌}

abbrev pub placed : {A : Type 0} → At → Parser (At → A) → Parser A
placed at p = (λ make. make at) <$> p

-- and of a part that was read before
abbrev pub placed_round : {A B : Type 0} → At → B → Parser (At → B → A) → Parser A
placed_round at part p = (λ make. make at part) <$> p

abbrev pub counted : {A : Type 0} → Parser (List A) → Parser ℕ
counted p = (λ xs. length xs) <$> p
