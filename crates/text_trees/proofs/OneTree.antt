-- A text spells at most one tree.
use Rattle.std.proofs.Common.{◌≡◌, ℕ, List, subst}
use Rattle.elm_base.specs.Lexemes.{Lexeme}
use Rattle.layout_lexer.proofs.Laws.{one_list}
use Rattle.text_trees.specs.Spells.{Spells}

pub one_tree : {A : Type 0} (Derives : List Lexeme → A → Type 0) → ((ts : List Lexeme) (x y : A) → Derives ts x → Derives ts y → x ≡ y)
    → (text : List ℕ) (x y : A) → Spells Derives text x → Spells Derives text y → x ≡ y
one_tree Derives one text x y s t = one t.0 x y (subst (λ (ts : List Lexeme). Derives ts x) (one_list text s.0 t.0 s.1 t.1) s.2) t.2
