-- The spellings of each kind of token.
use Rattle.std.specs.Prelude.{◌≡◌, ◌≢◌, ℕ, ◌+◌, ◌-◌, ◌*◌, ◌<◌, ◌≤◌, ⊤, true, ◌⊎◌, List, [], ◌∷◌, ◌++◌, length}
use Rattle.std.specs.List.{list_all, concat}
use Rattle.layout_lexer.specs.declared.byte_class.Class.{Class}
use Rattle.layout_lexer.specs.declared.byte_class.Class.TheVariants as class
use Rattle.layout_lexer.specs.Chars.{Text, is_in, is_name_byte, is_continuation}
use Rattle.layout_lexer.specs.Marks.{is_escape}

-- the text begins with s
abbrev pub Begins : Text → Text → Type 0
Begins s text = (rest : Text) × (text ≡ s ++ rest)

-- s is the longest of these spellings with which the text begins
pub record IsLongest (Spells : Text → Type 0) (text s : Text) : Type 0 where
  pub spells : Spells s
  pub front : Begins s text
  pub longest : (t : Text) → Begins t text → Spells t → length t ≤ length s

-- P holds of each of the texts
abbrev pub Each : (Text → Type 0) → List Text → Type 0
Each P [] = ⊤
Each P (x ∷ xs) = P x × Each P xs

-- ---- names

-- one letter of the class, and then letters, digits, `_` and `'`
pub record IsSimple (c : Class) (s : Text) : Type 0 where
  pub first : ℕ
  pub more : Text
  pub split : s ≡ first ∷ more
  pub begins : is_in c first ≡ true
  pub goes : list_all is_name_byte more ≡ true

-- the texts, and then s, with a point between each two
abbrev pub dotted : List Text → Text → Text
dotted [] s = s
dotted (u ∷ us) s = u ++ 46 ∷ dotted us s

-- names of modules and a name of the class, joined by points
pub record IsQualified (c : Class) (s : Text) : Type 0 where
  pub modules : List Text
  pub last : Text
  pub upper : Each (IsSimple class.Upper) modules
  pub simple : IsSimple c last
  pub split : s ≡ dotted modules last

-- a name by its last part: a lower-case one or an upper-case one
abbrev pub IsName : Text → Type 0
IsName s = IsQualified class.Lower s ⊎ IsQualified class.Upper s

-- ---- a point with a label, and runs of operator bytes

-- a point and a lower-case name
pub record IsField (s : Text) : Type 0 where
  pub label : Text
  pub split : s ≡ 46 ∷ label
  pub simple : IsSimple class.Lower label

-- one byte or more, all of the class
abbrev pub IsRun : Class → Text → Type 0
IsRun c s = (0 < length s) × (list_all (is_in c) s ≡ true)

-- what may begin with a byte of an operator: the longer of the two stands
abbrev pub IsFieldOrRun : Text → Type 0
IsFieldOrRun s = IsRun class.Operator s ⊎ IsField s

-- one byte that is a symbol
pub record IsSymbol (s : Text) : Type 0 where
  pub byte : ℕ
  pub split : s ≡ byte ∷ []
  pub symbol : is_in class.Symbol byte ≡ true

-- ---- numbers

abbrev pub value_from : ℕ → Text → ℕ
value_from v [] = v
value_from v (d ∷ ds) = value_from (v * 10 + (d - 48)) ds

-- the number that the digits write
abbrev pub value_of : Text → ℕ
value_of digits = value_from 0 digits

-- ---- texts and chars

-- a backslash and a byte that may follow it
pub record IsEscape (s : Text) : Type 0 where
  pub byte : ℕ
  pub split : s ≡ 92 ∷ byte ∷ []
  pub known : is_escape byte ≡ true

-- one byte other than `"`, the backslash and the newline
pub record IsPlain (s : Text) : Type 0 where
  pub byte : ℕ
  pub split : s ≡ byte ∷ []
  pub no_quote : byte ≢ 34
  pub no_backslash : byte ≢ 92
  pub no_newline : byte ≢ 10

-- what may stand between double quotes, on one line
pub record IsQuoted (s : Text) : Type 0 where
  pub units : List Text
  pub each : Each (λ u. IsPlain u ⊎ IsEscape u) units
  pub split : s ≡ concat units

-- a text in double quotes
pub record IsText (s : Text) : Type 0 where
  pub inside : Text
  pub split : s ≡ 34 ∷ (inside ++ 34 ∷ [])
  pub quoted : IsQuoted inside

-- one char other than `'`, the backslash and the newline: a byte, and the bytes that go on with it
pub record IsOneChar (s : Text) : Type 0 where
  pub byte : ℕ
  pub more : Text
  pub split : s ≡ byte ∷ more
  pub no_quote : byte ≢ 39
  pub no_backslash : byte ≢ 92
  pub no_newline : byte ≢ 10
  pub goes : list_all is_continuation more ≡ true

-- one char or one escape in single quotes
pub record IsChar (s : Text) : Type 0 where
  pub inside : Text
  pub split : s ≡ 39 ∷ (inside ++ 39 ∷ [])
  pub one : IsOneChar inside ⊎ IsEscape inside
