-- What the spelling of a literal stands for.
use Rattle.std.specs.Prelude.{ℕ, ◌+◌, ◌-◌, ◌*◌, ◌==◌, nat_lt, nat_le, Bool, true, false, ◌&&◌, if◌then◌else◌, List, [], ◌∷◌, ◌++◌, length, take, drop, Option, Some, None, ℤ, pos}
use Rattle.std.specs.List.{list_all}
use Rattle.std.specs.Str.{chars, is_utf8}
use Rattle.elm_base.specs.Letters.{is_digit}

-- ---- Int: digits, for a number of at most 9223372036854775807

abbrev pub is_number : List ℕ → Bool
is_number text = nat_lt 0 (length text) && list_all is_digit text

-- the number that the digits write behind those of n
abbrev pub number_after : ℕ → List ℕ → ℕ
number_after n [] = n
number_after n (c ∷ cs) = number_after (n * 10 + (c - 48)) cs

abbrev pub number : List ℕ → ℕ
number text = number_after 0 text

abbrev pub small : ℕ → Option ℤ
small n = if nat_le n 9223372036854775807 then Some (pos n) else None

unfoldable pub int_value : List ℕ → Option ℤ
int_value text = if is_number text then small (number text) else None

-- ---- Text and Char: between two quotes, with escapes

-- without the quotes
abbrev pub inner : List ℕ → List ℕ
inner text = take (length text - 2) (drop 1 text)

-- what a backslash and this byte stand for
abbrev pub escape : ℕ → Option ℕ
escape c =
    if c == 110 then Some 10 else if c == 116 then Some 9 else if c == 114 then Some 13 else
    if c == 34 then Some 34 else if c == 39 then Some 39 else if c == 92 then Some 92 else None

abbrev pub before : Option ℕ → Option (List ℕ) → Option (List ℕ)
before (Some c) (Some cs) = Some (c ∷ cs)
before (Some c) None = None
before None _ = None

-- The bytes with their escapes read. The test says whether a backslash stands before.
abbrev pub unescaped : Bool → List ℕ → Option (List ℕ)
unescaped false [] = Some []
unescaped true [] = None
unescaped true (c ∷ cs) = before (escape c) (unescaped false cs)
unescaped false (c ∷ cs) = if c == 92 then unescaped true cs else before (Some c) (unescaped false cs)

-- the bytes that were read before the others
abbrev pub behind : List ℕ → Option (List ℕ) → Option (List ℕ)
behind front (Some cs) = Some (front ++ cs)
behind front None = None

-- what is read behind these bytes, in this state or in none
abbrev pub goes_on : List ℕ → Option Bool → List ℕ → Option (List ℕ)
goes_on front (Some escaped) rest = behind front (unescaped escaped rest)
goes_on front None rest = None

unfoldable pub text_value : List ℕ → Option (List ℕ)
text_value text = unescaped false (inner text)

abbrev pub only_one : List ℕ → Option ℕ
only_one (c ∷ []) = Some c
only_one _ = None

-- the one char whose UTF-8 these bytes are
abbrev pub one_char : List ℕ → Option ℕ
one_char bytes = if is_utf8 bytes then only_one (chars bytes) else None

abbrev pub char_of : Option (List ℕ) → Option ℕ
char_of (Some bytes) = one_char bytes
char_of None = None

unfoldable pub char_value : List ℕ → Option ℕ
char_value text = char_of (text_value text)

-- what stands behind the point of an access or a field function
unfoldable pub label_of : List ℕ → Option (List ℕ)
label_of [] = None
label_of (point ∷ label) = Some label
