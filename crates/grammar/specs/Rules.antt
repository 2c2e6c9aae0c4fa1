-- How rules of a grammar are put together. A rule says which lists of tokens stand for which values.
use Rattle.std.specs.Prelude.{◌≡◌, ◌<◌, ℕ, Bool, true, ◌⊎◌, List, [], ◌∷◌, ◌++◌, Option, Some, None, length, nat_le}
use Rattle.elm_base.specs.declared.token.At.{At}
use Rattle.elm_base.specs.declared.tree.Spot.{Spot}
use Rattle.elm_base.specs.Lexemes.{Lexeme}
use Rattle.grammar.specs.declared.terminal.Terminal.{Terminal}
use Rattle.grammar.specs.declared.terminal.Terminal.TheVariants as k
use Rattle.grammar.specs.Terminals.{terminal}

abbrev pub Rule : Type 0 → Type 1
Rule A = List Lexeme → A → Type 0

-- one such token, which stands for what its spelling means
abbrev pub spelled : {A : Type 0} → Terminal → (List ℕ → Option A) → Rule A
spelled symbol meaning ts x = (t : Lexeme) × (ts ≡ t ∷ []) × (terminal t ≡ symbol) × (meaning t.text ≡ Some x)

-- one such token, which stands for its spelling
abbrev pub name : Terminal → Rule (List ℕ)
name symbol = spelled symbol (λ text. Some text)

-- one such token, which stands for nothing
abbrev pub mark : Terminal → Rule (Unit {0})
mark symbol = spelled symbol (λ text. Some tt)

-- no token at all
abbrev pub nothing : {A : Type 0} → A → Rule A
nothing a ts x = (ts ≡ []) × (x ≡ a)

-- one after the other
infixr 12 ◌⊗◌
abbrev pub ◌⊗◌ : {A B : Type 0} → Rule A → Rule B → Rule (A × B)
(P ⊗ Q) ts x = (us vs : List Lexeme) × (ts ≡ us ++ vs) × P us x.0 × Q vs x.1

infixr 11 ◌<$>◌
abbrev pub ◌<$>◌ : {A B : Type 0} → (A → B) → Rule A → Rule B
(f <$> P) ts y = (x : _) × P ts x × (y ≡ f x)

-- one after the other, where only the second or only the first stands for something
infixr 12 ◌▷◌
abbrev pub ◌▷◌ : {A B : Type 0} → Rule A → Rule B → Rule B
(P ▷ Q) = (λ x. x.1) <$> P ⊗ Q

infixr 12 ◌◁◌
abbrev pub ◌◁◌ : {A B : Type 0} → Rule A → Rule B → Rule A
(P ◁ Q) = (λ x. x.0) <$> P ⊗ Q

-- either
infixr 10 ◌∣◌
abbrev pub ◌∣◌ : {A : Type 0} → Rule A → Rule A → Rule A
(P ∣ Q) ts x = P ts x ⊎ Q ts x

abbrev pub optional : {A : Type 0} → Rule A → Rule (Option A)
optional P = (λ x. Some x) <$> P ∣ nothing None

-- any number, and at least one
abbrev pub many : {A : Type 0} → Rule A → Rule (List A)
many P ts [] = ts ≡ []
many P ts (x ∷ xs) = (us vs : List Lexeme) × (ts ≡ us ++ vs) × P us x × many P vs xs

abbrev pub some : {A : Type 0} → Rule A → Rule (List A)
some P = (λ x. x.0 ∷ x.1) <$> P ⊗ many P

-- one or more, with commas between
abbrev pub separated : {A : Type 0} → Rule A → Rule (List A)
separated P = (λ x. x.0 ∷ x.1) <$> P ⊗ many (mark k.Comma ▷ P)

-- what the rule takes, where its value passes the test
abbrev pub only : {A : Type 0} → (A → Bool) → Rule A → Rule A
only test P ts x = P ts x × (test x ≡ true)

-- a tuple has at most nine parts
abbrev pub at_most_nine : {A : Type 0} → List A → Bool
at_most_nine xs = nat_le (length xs) 9

-- with the place of the first token
abbrev pub at : {A : Type 0} → Rule A → Rule (At × A)
at P ts x = ((t : Lexeme) × (us : List Lexeme) × (ts ≡ t ∷ us) × (x.0 ≡ t.at)) × P ts x.1

-- a name without modules before it, with its place
abbrev pub spot : Rule Spot
spot = (λ x. record { at = x.0; name = x.1 }) <$> at (name k.Lower)

-- Values with others between, of which the last may be of a second kind: pairs of what stands between and what follows it.
abbrev pub linked : {A B : Type 0} → Rule A → Rule B → Rule B → Rule (List (A × B))
linked O P Q ts [] = ts ≡ []
linked O P Q ts (x ∷ xs) =
    (us vs ws : List Lexeme) × (ts ≡ us ++ (vs ++ ws)) × O us x.0 × ((P vs x.1 × linked O P Q ws xs) ⊎ (Q vs x.1 × (ws ≡ []) × (xs ≡ [])))

-- ---- layout

-- each stands strictly to the right of a column
abbrev pub AreRight : ℕ → List Lexeme → Type 0
AreRight column [] = Unit {0}
AreRight column (t ∷ ts) = (column < t.at.column) × AreRight column ts

-- begins in the column, and each other token stands strictly to the right of it
abbrev pub item : {A : Type 0} → ℕ → Rule A → Rule A
item column P ts x = ((t : Lexeme) × (us : List Lexeme) × (ts ≡ t ∷ us) × (t.at.column ≡ column) × AreRight column us) × P ts x

-- one or more items in one column
abbrev pub block : {A : Type 0} → Rule A → Rule (List A)
block P ts xs = (column : ℕ) × some (item column P) ts xs
