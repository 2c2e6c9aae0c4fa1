-- A list that goes on from what was read before.
use Rattle.std.proofs.Common.{◌≡◌, List, ap, subst}
use Rattle.std.specs.Prelude.{Result}
use Rattle.elm_base.specs.declared.memory.Halt.{Halt}
use Rattle.elm_base.specs.Lexemes.{Lexeme}
use Rattle.grammar.specs.declared.cursor.NoTree.{NoTree}
use Rattle.grammar.specs.Reader.{Outcome, Reads, with_front}

pub from_front : {A : Type 0} (found front : List A) (o : Outcome (List A)) (r : Result (List A) (Halt NoTree)) (new : List Lexeme) → found ≡ front
    → Reads (with_front found o) r new → Reads (with_front front o) r new
from_front found front o r new is h = subst (λ z. Reads z r new) (ap (λ f. with_front f o) is) h
