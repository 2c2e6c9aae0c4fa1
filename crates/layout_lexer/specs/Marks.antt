-- Words, symbols and marks of the language.
use Rattle.std.specs.Prelude.{ℕ, Bool, ◌&&◌, ◌||◌, ◌==◌, List, [], ◌∷◌, codes, slice_index}
use Rattle.std.specs.List.{list_any}
use Rattle.std.specs.Cmp.Lexicographic.{pointwise}
use Rattle.layout_lexer.specs.declared.byte_class.Class.TheVariants as class
use Rattle.layout_lexer.specs.Chars.{Text, is_in, is_letter, is_among}

-- the text begins with these two bytes
abbrev pub opens : ℕ → ℕ → Text → Bool
opens a b text = slice_index text 0 == a && slice_index text 1 == b

abbrev pub is_same : Text → Text → Bool
is_same = pointwise (λ a b. a == b)

abbrev pub is_listed : List Text → Text → Bool
is_listed list word = list_any (λ w. is_same w word) list

-- the most bytes of a name or an operator
abbrev pub max_name : ℕ
max_name = 255

-- the greatest integer literal
abbrev pub max_int : ℕ
max_int = 9223372036854775807

abbrev pub words : List Text
words =
    codes "module" ∷ codes "where" ∷ codes "import" ∷ codes "as" ∷ codes "exposing" ∷ codes "type" ∷ codes "alias" ∷ codes "port" ∷ codes "if"
    ∷ codes "then" ∷ codes "else" ∷ codes "let" ∷ codes "in" ∷ codes "case" ∷ codes "of" ∷ codes "infixl" ∷ codes "infixr" ∷ codes "infix" ∷ []

abbrev pub symbol_runs : List Text
symbol_runs = codes "=" ∷ codes "->" ∷ codes "|" ∷ codes ":" ∷ codes "<-" ∷ codes ".." ∷ []

-- n, t, r, both quotes and the backslash
abbrev pub escapes : Text
escapes = 110 ∷ 116 ∷ 114 ∷ 34 ∷ 39 ∷ 92 ∷ []

abbrev pub is_escape : ℕ → Bool
is_escape b = is_among escapes b

-- what stands behind digits makes them a form that is left out
abbrev pub goes_on : Text → Bool
goes_on rest = is_letter (slice_index rest 0) || slice_index rest 0 == 95 || (slice_index rest 0 == 46 && is_in class.Digit (slice_index rest 1))
