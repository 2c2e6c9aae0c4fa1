-- The literals without parts, in no brackets: integers, the unit, truths and texts.
use Rattle.std.specs.Prelude.{ℕ, zero, suc, ℤ, pos, negsuc, Bool, true, false, ◌==◌, if◌then◌else◌, List, [], ◌∷◌, codes, Option, Some, None, ◌&&◌}
use Rattle.std.specs.Option.{option_map}
use Rattle.std.specs.Str.{all_ascii_digits, bytes_eq, is_utf8}
use Rattle.elm_base.specs.Spaces.{trim_start}
use Rattle.std.specs.Str.Parse.{digits_value}
use Rattle.port_values.specs.Values.{is_int}

-- what is found, where it passes the test
abbrev pub kept_by : {A : Type 0} → (A → Bool) → Option A → Option A
kept_by test None = None
kept_by test (Some found) = if test found then Some found else None

-- ---- integers

abbrev pub negative : ℕ → ℤ
negative zero = pos 0
negative (suc n) = negsuc n

-- one digit or more
abbrev pub natural_of : List ℕ → Option ℕ
natural_of [] = None
natural_of (digit ∷ digits) =
    if all_ascii_digits (digit ∷ digits) then Some (digits_value 10 (digit ∷ digits)) else None

-- digits, and a minus directly before them or none
abbrev pub number_of : List ℕ → Option ℤ
number_of [] = None
number_of (byte ∷ rest) = if byte == 45 then option_map negative (natural_of rest) else option_map pos (natural_of (byte ∷ rest))

-- The integer that a literal stands for: of 64 bits; zeros may lead, and `-0` is 0.
abbrev pub int_of : List ℕ → Option ℤ
int_of text = kept_by is_int (number_of text)

-- ---- the unit and truths

abbrev pub closes : List ℕ → Bool
closes rest = bytes_eq rest (codes ")")

-- Whether a text is the literal of the unit: a bracket, spaces or none, and a bracket.
abbrev pub is_unit : List ℕ → Bool
is_unit [] = false
is_unit (byte ∷ rest) = byte == 40 && closes (trim_start rest)

-- The truth that a word stands for.
abbrev pub truth_of : List ℕ → Option Bool
truth_of word =
    if bytes_eq word (codes "True") then Some true else (if bytes_eq word (codes "False") then Some false else None)

-- ---- texts

-- the byte for which one stands behind a backslash
abbrev pub escape_of : ℕ → Option ℕ
escape_of byte =
    if byte == 34 then Some 34
    else (if byte == 39 then Some 39
    else (if byte == 92 then Some 92
    else (if byte == 110 then Some 10
    else (if byte == 116 then Some 9
    else (if byte == 114 then Some 13 else None)))))

-- a byte in front of those that follow
abbrev pub onto : Option ℕ → Option (List ℕ) → Option (List ℕ)
onto (Some byte) (Some more) = Some (byte ∷ more)
onto _ _ = None

-- nothing follows
abbrev pub nothing_behind : List ℕ → Option (List ℕ)
nothing_behind [] = Some []
nothing_behind (byte ∷ rest) = None

-- What stands before the closing quote, with escapes read; `escaped` where a backslash stands directly before. Every
-- byte but a newline stands for itself.
abbrev pub inside_of : Bool → List ℕ → Option (List ℕ)
inside_of escaped [] = None
inside_of true (byte ∷ rest) = onto (escape_of byte) (inside_of false rest)
inside_of false (byte ∷ rest) =
    if byte == 34 then nothing_behind rest
    else (if byte == 92 then inside_of true rest
    else (if byte == 10 then None else onto (Some byte) (inside_of false rest)))

abbrev pub between_quotes : List ℕ → Option (List ℕ)
between_quotes [] = None
between_quotes (byte ∷ rest) = if byte == 34 then inside_of false rest else None

-- The text that a literal stands for: it is UTF-8.
abbrev pub text_of : List ℕ → Option (List ℕ)
text_of text = kept_by is_utf8 (between_quotes text)
