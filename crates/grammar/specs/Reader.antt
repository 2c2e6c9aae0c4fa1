-- How a parser is put together, as functions on the tokens that are left.
use Rattle.std.specs.Prelude.{◌≡◌, ◌≢◌, ℕ, zero, suc, Bool, true, false, ◌&&◌, ◌==◌, nat_lt, if◌then◌else◌, take, drop, List, [], ◌∷◌, ◌++◌, length, Option, Some, None, Result, Ok, Err}
use Rattle.elm_base.specs.declared.memory.Halt.{Halt}
use Rattle.elm_base.specs.declared.memory.Halt.TheVariants as halt
use Rattle.elm_base.specs.declared.token.At.{At}
use Rattle.elm_base.specs.declared.tree.Spot.{Spot}
use Rattle.elm_base.specs.Lexemes.{Lexeme}
use Rattle.grammar.specs.declared.cursor.NoTree.{NoTree}
use Rattle.grammar.specs.declared.terminal.Terminal.{Terminal}
use Rattle.grammar.specs.declared.terminal.Terminal.TheVariants as k
use Rattle.grammar.specs.Terminals.{starts}

abbrev pub Outcome : Type 0 → Type 0
Outcome A = Option (A × List Lexeme)

abbrev pub Parser : Type 0 → Type 0
Parser A = List Lexeme → Outcome A

abbrev pub and_then : {A B : Type 0} → Outcome A → (A → Parser B) → Outcome B
and_then (Some p) f = f p.0 p.1
and_then None f = None

abbrev pub is_done : List Lexeme → Bool
is_done [] = true
is_done (t ∷ ts) = false

abbrev pub with_rest : {A : Type 0} → Option A → List Lexeme → Outcome A
with_rest (Some x) ts = Some (x, ts)
with_rest None ts = None

abbrev pub spelled_at : {A : Type 0} → (List ℕ → Option A) → Bool → Parser A
spelled_at meaning true (t ∷ ts) = with_rest (meaning t.text) ts
spelled_at meaning _ ts = None

unfoldable pub spelled : {A : Type 0} → Terminal → (List ℕ → Option A) → Parser A
spelled symbol meaning ts = spelled_at meaning (starts (symbol ∷ []) ts) ts

abbrev pub name : Terminal → Parser (List ℕ)
name symbol = spelled symbol (λ text. Some text)

abbrev pub mark : Terminal → Parser (Unit {0})
mark symbol = spelled symbol (λ text. Some tt)

abbrev pub nothing : {A : Type 0} → A → Parser A
nothing a ts = Some (a, ts)

infixr 12 ◌⊗◌
abbrev pub ◌⊗◌ : {A B : Type 0} → Parser A → Parser B → Parser (A × B)
(p ⊗ q) ts = and_then (p ts) (λ a us. and_then (q us) (λ b vs. Some ((a, b), vs)))

infixr 11 ◌<$>◌
abbrev pub ◌<$>◌ : {A B : Type 0} → (A → B) → Parser A → Parser B
(f <$> p) ts = and_then (p ts) (λ a us. Some (f a, us))

infixr 12 ◌▷◌
abbrev pub ◌▷◌ : {A B : Type 0} → Parser A → Parser B → Parser B
(p ▷ q) = (λ x. x.1) <$> p ⊗ q

infixr 12 ◌◁◌
abbrev pub ◌◁◌ : {A B : Type 0} → Parser A → Parser B → Parser A
(p ◁ q) = (λ x. x.0) <$> p ⊗ q

-- the first parser where the next token is one of these, else the second
abbrev pub choose : {A : Type 0} → List Terminal → Parser A → Parser A → Parser A
choose set p q ts = if starts set ts then p ts else q ts

-- the first parser where the tokens pass the test, else the second
abbrev pub choose_if : {A : Type 0} → (List Lexeme → Bool) → Parser A → Parser A → Parser A
choose_if test p q ts = if test ts then p ts else q ts

-- whether the first two tokens are of these sets
abbrev pub starts_two : List Terminal → List Terminal → List Lexeme → Bool
starts_two first second ts = starts first ts && starts second (drop 1 ts)

abbrev pub optional : {A : Type 0} → List Terminal → Parser A → Parser (Option A)
optional set p = choose set ((λ x. Some x) <$> p) (nothing None)

-- as long as the test holds. The number bounds the turns.
abbrev pub turns : {A : Type 0} → (List Lexeme → Bool) → Parser A → ℕ → Parser (List A)
turns test p zero ts = Some ([], ts)
turns test p (suc n) ts = if test ts then ((λ x. x.0 ∷ x.1) <$> p ⊗ turns test p n) ts else Some ([], ts)

-- as long as the next token is one of these
abbrev pub many_from : {A : Type 0} → List Terminal → Parser A → ℕ → Parser (List A)
many_from set p n = turns (starts set) p n

unfoldable pub many : {A : Type 0} → List Terminal → Parser A → Parser (List A)
many set p ts = many_from set p (length ts) ts

-- the items of `front` before those that are read
abbrev pub with_front : {A : Type 0} → List A → Outcome (List A) → Outcome (List A)
with_front front r = and_then r (λ xs us. Some (front ++ xs, us))

abbrev pub only : {A : Type 0} → (A → Bool) → Parser A → Parser A
only test p ts = and_then (p ts) (λ x us. if test x then Some (x, us) else None)

unfoldable pub here : Parser At
here [] = None
here (t ∷ ts) = Some (t.at, t ∷ ts)

abbrev pub at : {A : Type 0} → Parser A → Parser (At × A)
at p = here ⊗ p

unfoldable pub spot : Parser Spot
spot = (λ x. record { at = x.0; name = x.1 }) <$> at (name k.Lower)

-- What stands between, and what follows it: the last where it begins so, and else one more and so on. The number bounds the turns.
abbrev pub links : {A B : Type 0} → List Terminal → List Terminal → Parser A → Parser B → Parser B → ℕ → Parser (List (A × B))
links between last o p q zero ts = Some ([], ts)
links between last o p q (suc n) ts =
    if starts between ts
    then and_then (o ts) (λ a us.
    if starts last us then and_then (q us) (λ b vs. Some ((a, b) ∷ [], vs))
    else and_then (p us) (λ b vs. and_then (links between last o p q n vs) (λ rest ws. Some ((a, b) ∷ rest, ws))))
    else Some ([], ts)

unfoldable pub linked : {A B : Type 0} → List Terminal → List Terminal → Parser A → Parser B → Parser B → Parser (List (A × B))
linked between last o p q ts = links between last o p q (length ts) ts

-- ---- layout

-- how many tokens at the front stand to the right of the column
abbrev pub right : ℕ → List Lexeme → ℕ
right column [] = zero
right column (t ∷ ts) = if nat_lt column t.at.column then suc (right column ts) else zero

abbrev pub rejoined : {A : Type 0} → List Lexeme → Outcome A → Outcome A
rejoined rest r = and_then r (λ x us. Some (x, us ++ rest))

-- the first token and those behind it that stand to the right of the column
abbrev pub extent : ℕ → List Lexeme → ℕ
extent column [] = 0
extent column (t ∷ ts) = suc (right column ts)

-- the parser on those alone
unfoldable pub item : {A : Type 0} → ℕ → Parser A → Parser A
item column p ts = rejoined (drop (extent column ts) ts) (p (take (extent column ts) ts))

abbrev pub stands_in : ℕ → List Lexeme → Bool
stands_in column [] = false
stands_in column (t ∷ ts) = t.at.column == column

abbrev pub begins : ℕ → List Terminal → List Lexeme → Bool
begins column set [] = false
begins column set (t ∷ ts) = (t.at.column == column) && starts set (t ∷ ts)

abbrev pub items_from : {A : Type 0} → List Terminal → Parser A → ℕ → ℕ → Parser (List A)
items_from set p column n = turns (begins column set) (item column p) n

unfoldable pub items : {A : Type 0} → List Terminal → Parser A → ℕ → Parser (List A)
items set p column ts = items_from set p column (length ts) ts

unfoldable pub block : {A : Type 0} → List Terminal → Parser A → Parser (List A)
block set p ts = and_then (here ts) (λ at. (λ x. x.0 ∷ x.1) <$> item at.column p ⊗ items set p at.column)

-- ---- what a function that parses ensures: the parser's outcome, unless memory fails

abbrev pub Reads : {A : Type 0} → Outcome A → Result A (Halt NoTree) → List Lexeme → Type 0
Reads outcome (Ok a) new = outcome ≡ Some (a, new)
Reads outcome (Err e) new = e ≢ halt.NoMemory → outcome ≡ None
