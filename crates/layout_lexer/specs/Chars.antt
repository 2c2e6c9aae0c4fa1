-- Kinds of bytes. Letters and digits are ASCII.
use Rattle.std.specs.Prelude.{ℕ, [], ◌∷◌, codes, ◌+◌, Bool, not, ◌&&◌, ◌||◌, if◌then◌else◌, ◌==◌, nat_le, nat_lt, List, drop}
use Rattle.std.specs.Char.{is_ascii_lowercase, is_ascii_uppercase, is_ascii_digit}
use Rattle.std.specs.List.{prefix_len, list_any}
use denote.Enum.Bare.{sameb}
use Rattle.layout_lexer.specs.contracts.byte_class.Class.{the_type}
use Rattle.layout_lexer.specs.declared.byte_class.Class.{Class}
use Rattle.layout_lexer.specs.declared.byte_class.Class.TheVariants.{White, Lower, Upper, Digit, Quote, Apostrophe, Symbol, Operator, Other}
use Rattle.layout_lexer.specs.declared.byte_class.Run.{Run}
use Rattle.layout_lexer.specs.declared.byte_class.Run.TheVariants as run

abbrev pub Text : Type 0
Text = List ℕ

abbrev pub is_among : Text → ℕ → Bool
is_among bytes b = list_any (λ c. c == b) bytes

-- space, newline, carriage return
abbrev pub whites : Text
whites = 32 ∷ 10 ∷ 13 ∷ []

-- ()[]{},\_ and the backtick
abbrev pub symbols : Text
symbols = 40 ∷ 41 ∷ 91 ∷ 93 ∷ 123 ∷ 125 ∷ 44 ∷ 92 ∷ 95 ∷ 96 ∷ []

abbrev pub operators : Text
operators = codes "+-*/%<>=!&|^~@#$:."

-- the kind of token that a byte begins; each byte is of one class
unfoldable pub class_of : ℕ → Class
class_of b =
    if is_ascii_lowercase b then Lower
    else (if is_ascii_uppercase b then Upper
    else (if is_ascii_digit b then Digit
    else (if b == 34 then Quote
    else (if b == 39 then Apostrophe
    else (if is_among whites b then White
    else (if is_among symbols b then Symbol
    else (if is_among operators b then Operator
    else Other)))))))

unfoldable pub is_in : Class → ℕ → Bool
is_in class b = sameb the_type (class_of b) class

abbrev pub is_letter : ℕ → Bool
is_letter b = is_in Lower b || is_in Upper b

-- a name goes on with letters, digits, `_` and `'`
abbrev pub is_name_byte : ℕ → Bool
is_name_byte b = is_letter b || is_in Digit b || b == 95 || b == 39

-- a byte of a char after its first
abbrev pub is_continuation : ℕ → Bool
is_continuation b = nat_le 128 b && nat_lt b 192

abbrev pub runs_on : Run → ℕ → Bool
runs_on run.Digits b = is_in Digit b
runs_on run.Operators b = is_in Operator b
runs_on run.Name b = is_name_byte b
runs_on run.Continuation b = is_continuation b
runs_on run.Line b = not (b == 10)

-- the first place from `at` on that doesn't go on with the run
abbrev pub past : Run → Text → ℕ → ℕ
past r text at = at + prefix_len (runs_on r) (drop at text)
