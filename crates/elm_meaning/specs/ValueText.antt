-- The text of a value, as `toString` gives it.
use Rattle.std.specs.Prelude.{ℕ, Bool, true, false, if◌then◌else◌, List, [], ◌∷◌, ◌++◌, codes, encode_utf8}
use Rattle.std.specs.Str.{bytes_eq}
use Rattle.std.specs.Fmt.{signed_decimal}
use Rattle.elm_base.specs.Quoted.{quoted}
use Rattle.elm_meaning.specs.Values.{Value, Values, Fields, Int, Char, Text, Unit, Nil, Cons, Tuple, Made, Record, Applicable, Cells, Signal, NoValues, AndValue, NoFields, AndField}

-- a constructor with arguments stands in brackets where it is an argument
abbrev pub takes_brackets : Value → Bool
takes_brackets (Made k (AndValue v vs)) = true
takes_brackets _ = false

abbrev pub in_brackets : Bool → List ℕ → List ℕ
in_brackets true text = 40 ∷ text ++ 41 ∷ []
in_brackets false text = text

abbrev mutual
  pub text_of : Value → List ℕ
  text_of (Int z) = signed_decimal z
  text_of (Char code) = quoted 39 (encode_utf8 code)
  text_of (Text bytes) = quoted 34 bytes
  text_of Unit = codes "()"
  text_of Nil = codes "[]"
  text_of (Cons v vs) = 91 ∷ text_of v ++ more_elements vs
  text_of (Tuple vs) = 40 ∷ parts_text vs ++ 41 ∷ []
  text_of (Made k vs) = k ++ arguments_text vs
  text_of (Record fs) = record_text fs
  text_of (Applicable f) = codes "<function>"
  text_of (Cells w h rows) = codes "<element>"
  text_of (Signal n) = codes "<signal>"

  pub more_elements : Value → List ℕ
  more_elements (Cons v vs) = 44 ∷ text_of v ++ more_elements vs
  more_elements _ = 93 ∷ []

  pub parts_text : Values → List ℕ
  parts_text NoValues = []
  parts_text (AndValue v vs) = text_of v ++ more_parts vs

  pub more_parts : Values → List ℕ
  more_parts NoValues = []
  more_parts (AndValue v vs) = 44 ∷ text_of v ++ more_parts vs

  pub arguments_text : Values → List ℕ
  arguments_text NoValues = []
  arguments_text (AndValue v vs) = 32 ∷ in_brackets (takes_brackets v) (text_of v) ++ arguments_text vs

  pub record_text : Fields → List ℕ
  record_text NoFields = codes "{}"
  record_text (AndField label v fs) = codes "{ " ++ label ++ codes " = " ++ text_of v ++ more_fields label fs

  -- of one label only the newest field is seen
  pub more_fields : List ℕ → Fields → List ℕ
  more_fields before NoFields = codes " }"
  more_fields before (AndField label v fs) =
      if bytes_eq before label then more_fields label fs
      else codes ", " ++ label ++ codes " = " ++ text_of v ++ more_fields label fs
