-- Worked cases of literals without parts, on both sides of each rule.
use Rattle.std.specs.Prelude.{◌≡◌, ℕ, ℤ, pos, negsuc, true, false, List, [], ◌∷◌, codes, Some, None}
use Rattle.port_values.specs.Leaves.{int_of, is_unit, truth_of, text_of}

abbrev pub IsInt : List ℕ → ℤ → Type 0
IsInt text number = int_of text ≡ Some number

abbrev pub IsNoInt : List ℕ → Type 0
IsNoInt text = int_of text ≡ None

pub record Ints : Type 0 where
  pub nought : IsInt (codes "0") (pos 0)
  pub minus_nought : IsInt (codes "-0") (pos 0)
  pub leading : IsInt (codes "007") (pos 7)
  pub minus_leading : IsInt (codes "-00012") (negsuc 11)
  pub most : IsInt (codes "9223372036854775807") (pos 9223372036854775807)
  pub too_much : IsNoInt (codes "9223372036854775808")
  pub least : IsInt (codes "-9223372036854775808") (negsuc 9223372036854775807)
  pub too_little : IsNoInt (codes "-9223372036854775809")
  pub empty : IsNoInt []
  pub minus : IsNoInt (codes "-")
  pub minus_space : IsNoInt (codes "- 5")
  pub two_minus : IsNoInt (codes "--5")
  pub plus : IsNoInt (codes "+5")
  pub minus_bracket : IsNoInt (codes "-(5)")
  pub space_before : IsNoInt (codes " 5")
  pub space_behind : IsNoInt (codes "5 ")
  pub letter : IsNoInt (codes "5x")
  pub underscore : IsNoInt (codes "5_0")
  pub point : IsNoInt (codes "5.0")

pub record Units : Type 0 where
  pub bare : is_unit (codes "()") ≡ true
  pub spaces : is_unit (codes "(   )") ≡ true
  pub empty : is_unit [] ≡ false
  pub open_ : is_unit (codes "(") ≡ false
  pub closed : is_unit (codes ")") ≡ false
  pub tab : is_unit (codes "(\t)") ≡ false
  pub before : is_unit (codes " ()") ≡ false
  pub behind : is_unit (codes "() ") ≡ false
  pub list : is_unit (codes "[]") ≡ false
  pub value : is_unit (codes "(0)") ≡ false

pub record Truths : Type 0 where
  pub yes : truth_of (codes "True") ≡ Some true
  pub no_ : truth_of (codes "False") ≡ Some false
  pub lower : truth_of (codes "true") ≡ None
  pub longer : truth_of (codes "True1") ≡ None
  pub shorter : truth_of (codes "Fals") ≡ None
  pub empty : truth_of [] ≡ None
  pub behind : truth_of (codes "True ") ≡ None

abbrev pub IsText : List ℕ → List ℕ → Type 0
IsText text bytes = text_of text ≡ Some bytes

abbrev pub IsNoText : List ℕ → Type 0
IsNoText text = text_of text ≡ None

pub record Texts : Type 0 where
  pub empty : IsText (codes "\"\"") []
  pub letters : IsText (codes "\"a b\"") (codes "a b")
  pub escapes : IsText (codes "\"\\\"\\\\\\n\\t\\r\\'\"") (codes "\"\\\n\t\r'")
  pub apostrophe : IsText (codes "\"'\"") (codes "'")
  pub tab : IsText (codes "\"\t\"") (codes "\t")
  pub returned : IsText (codes "\"\r\"") (codes "\r")
  pub two_bytes : IsText (34 ∷ 195 ∷ 169 ∷ 34 ∷ []) (195 ∷ 169 ∷ [])
  pub newline : IsNoText (codes "\"\n\"")
  pub other_escape : IsNoText (codes "\"\\a\"")
  pub escaped_newline : IsNoText (codes "\"\\\n\"")
  pub open_ : IsNoText (codes "\"a")
  pub open_escape : IsNoText (codes "\"a\\")
  pub open_quote : IsNoText (codes "\"a\\\"")
  pub two_texts : IsNoText (codes "\"a\"\"b\"")
  pub behind : IsNoText (codes "\"a\" ")
  pub before : IsNoText (codes " \"a\"")
  pub no_quote : IsNoText (codes "a")
  pub other_quotes : IsNoText (codes "'a'")
  pub none : IsNoText []
  pub not_utf8 : IsNoText (34 ∷ 195 ∷ 34 ∷ [])
