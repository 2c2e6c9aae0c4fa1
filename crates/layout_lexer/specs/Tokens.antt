-- What stands at the front of a text, or is wrong with it; the tokens of a text, and its first fault.
use Rattle.std.specs.Prelude.{◌≡◌, ◌≢◌, ℕ, ◌+◌, ◌<◌, ◌≤◌, ⊤, Bool, true, false, ◌⊎◌, if◌then◌else◌, List, [], ◌∷◌, ◌++◌, length, drop, Some, None}
use Rattle.std.specs.List.{list_all}
use Rattle.elm_base.specs.declared.memory.Halt.{Halt}
use Rattle.elm_base.specs.declared.memory.Halt.TheVariants as halt
use Rattle.elm_base.specs.declared.token.TokenKind.{TokenKind}
use Rattle.elm_base.specs.declared.token.TokenKind.TheVariants as kind
use Rattle.elm_base.specs.declared.fault.FaultKind.{FaultKind}
use Rattle.elm_base.specs.declared.fault.FaultKind.TheVariants as fault
use Rattle.elm_base.specs.Lexemes.{Lexeme}
use Rattle.layout_lexer.specs.declared.byte_class.Class.TheVariants as class
use Rattle.layout_lexer.specs.declared.place.TextFault.{TextFault}
use Rattle.layout_lexer.specs.Chars.{Text, class_of}
use Rattle.layout_lexer.specs.Marks.{max_name, max_int, opens, is_listed, words, symbol_runs, goes_on, is_escape}
use Rattle.layout_lexer.specs.Spellings.{Begins, IsLongest, IsName, IsQualified, IsField, IsRun, IsFieldOrRun, value_of, IsText, IsQuoted, IsChar, IsSymbol}
use Rattle.layout_lexer.specs.Comments.{EndsLine, EndsTextLine, is_line_byte, Closes}
use Rattle.layout_lexer.specs.Cuts.{Part, TokensBy, FirstFaultBy}

-- white space or a comment
abbrev pub blank_part : Text → Part
blank_part s = record { kind = None; text = s }

abbrev pub token_part : TokenKind → Text → Part
token_part k s = record { kind = Some k; text = s }

-- The part stands at the front of the text. `joined` says whether a value ends directly before it.
pub data Stands (joined : Bool) (text : Text) (part : Part) : Type 0 where
  white : (b : ℕ) (rest : Text) → text ≡ b ∷ rest → class_of b ≡ class.White → part ≡ blank_part (b ∷ []) → Stands joined text part
  line_comment : (line rest : Text) → text ≡ 45 ∷ 45 ∷ (line ++ rest) → list_all is_line_byte line ≡ true → EndsLine rest → part ≡ blank_part (45 ∷ 45 ∷ line) → Stands joined text part
  comment : (inside after : Text) → text ≡ 123 ∷ 45 ∷ (inside ++ after) → Closes (inside ++ after) after → part ≡ blank_part (123 ∷ 45 ∷ inside) → Stands joined text part
  word : (s : Text) → IsLongest IsName text s → length s ≤ max_name → is_listed words s ≡ true → part ≡ token_part kind.Word s → Stands joined text part
  lower : (s : Text) → IsLongest IsName text s → length s ≤ max_name → is_listed words s ≡ false → IsQualified class.Lower s → part ≡ token_part kind.Lower s → Stands joined text part
  upper : (s : Text) → IsLongest IsName text s → length s ≤ max_name → is_listed words s ≡ false → IsQualified class.Upper s → part ≡ token_part kind.Upper s → Stands joined text part
  int : (s rest : Text) → IsLongest (IsRun class.Digit) text s → text ≡ s ++ rest → goes_on rest ≡ false → value_of s ≤ max_int → part ≡ token_part kind.Int s → Stands joined text part
  text : (s : Text) → opens 34 34 (drop 1 text) ≡ false → IsLongest IsText text s → part ≡ token_part kind.Text s → Stands joined text part
  char : (s : Text) → IsLongest IsChar text s → part ≡ token_part kind.Char s → Stands joined text part
  field : (s : Text) → IsLongest IsFieldOrRun text s → IsField s → length s ≤ max_name + 1 → part ≡ token_part (if joined then kind.Access else kind.FieldFunction) s → Stands joined text part
  operator : (s : Text) → opens 45 45 text ≡ false → IsLongest IsFieldOrRun text s → IsRun class.Operator s → length s ≤ max_name
      → part ≡ token_part (if is_listed symbol_runs s then kind.Symbol else kind.Operator) s → Stands joined text part
  symbol : (b : ℕ) (rest : Text) → opens 123 45 text ≡ false → text ≡ b ∷ rest → class_of b ≡ class.Symbol → part ≡ token_part kind.Symbol (b ∷ []) → Stands joined text part

-- A token or comment begins at the front of the text, and this is wrong with it.
pub data Faulty (text : Text) (k : FaultKind) : Type 0 where
  open_comment : opens 123 45 text ≡ true → ((after : Text) → ¬ (Closes (drop 2 text) after)) → k ≡ fault.OpenComment → Faulty text k
  long_name : (s : Text) → IsLongest IsName text s → max_name < length s → k ≡ fault.TooLarge → Faulty text k
  long_field : (s : Text) → IsLongest IsFieldOrRun text s → IsField s → max_name + 1 < length s → k ≡ fault.TooLarge → Faulty text k
  long_operator : (s : Text) → opens 45 45 text ≡ false → IsLongest IsFieldOrRun text s → IsRun class.Operator s → max_name < length s → k ≡ fault.TooLarge → Faulty text k
  other_number : (s rest : Text) → IsLongest (IsRun class.Digit) text s → text ≡ s ++ rest → goes_on rest ≡ true → k ≡ fault.Excluded → Faulty text k
  wide_number : (s rest : Text) → IsLongest (IsRun class.Digit) text s → text ≡ s ++ rest → goes_on rest ≡ false → max_int < value_of s → k ≡ fault.IntTooWide → Faulty text k
  three_quotes : (rest : Text) → text ≡ 34 ∷ 34 ∷ 34 ∷ rest → k ≡ fault.Excluded → Faulty text k
  open_text : (inside rest : Text) → text ≡ 34 ∷ (inside ++ rest) → IsQuoted inside → EndsTextLine rest → k ≡ fault.OpenString → Faulty text k
  bad_escape : (inside rest : Text) (b : ℕ) → text ≡ 34 ∷ (inside ++ 92 ∷ b ∷ rest) → IsQuoted inside → is_escape b ≡ false → b ≢ 10 → k ≡ fault.BadChar → Faulty text k
  bad_char : (rest : Text) → text ≡ 39 ∷ rest → ((s : Text) → Begins s text → ¬ (IsChar s)) → k ≡ fault.BadChar → Faulty text k
  no_token : (b : ℕ) (rest : Text) → text ≡ b ∷ rest → class_of b ≡ class.Other → k ≡ fault.BadChar → Faulty text k

-- a spelling of a token of any kind
abbrev pub IsSpelling : Text → Type 0
IsSpelling s = IsName s ⊎ (IsRun class.Digit s ⊎ (IsText s ⊎ (IsChar s ⊎ (IsFieldOrRun s ⊎ IsSymbol s))))

-- ---- the whole text

-- the list is the tokens of the text
abbrev pub Tokens : Text → List Lexeme → Type 0
Tokens = TokensBy Stands Faulty

-- the fault is the first of the text
abbrev pub FirstFault : Text → TextFault → Type 0
FirstFault = FirstFaultBy Stands Faulty

-- ---- for contracts

-- the spellings are slices of the text, in order
abbrev pub AreSlices : Text → List Lexeme → Type 0
AreSlices whole [] = ⊤
AreSlices whole (t ∷ ts) = (before : Text) × (rest : Text) × (whole ≡ before ++ t.text ++ rest) × AreSlices rest ts

-- P holds of the reason, where there is one
abbrev pub OnBecause : {E : Type 0} → Halt E → (E → Type 0) → Type 0
OnBecause (halt.Because e) P = P e
OnBecause halt.NoMemory P = ⊤
