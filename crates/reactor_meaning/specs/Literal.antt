-- The literals of integers.
use Rattle.std.specs.Prelude.{◌==◌, ◌&&◌, ℕ, ℤ, pos, neg_ℤ, Bool, if◌then◌else◌, nat_le, List, [], ◌∷◌, length, Option, Some, None}
use Rattle.std.specs.Option.{option_map}
use Rattle.std.specs.Str.{all_ascii_digits}
use Rattle.std.specs.Str.Parse.{digits_value}

-- one digit or more, and nothing else
abbrev pub is_numeral : List ℕ → Bool
is_numeral digits = nat_le 1 (length digits) && all_ascii_digits digits

-- the number that digits write, if it is at most this
abbrev pub number_up_to : ℕ → List ℕ → Option ℕ
number_up_to most digits = if is_numeral digits && nat_le (digits_value 10 digits) most then Some (digits_value 10 digits) else None

-- The integer that a text spells: digits, perhaps behind a minus, within 64 bits. Leading zeros are allowed.
abbrev pub integer_of : List ℕ → Option ℤ
integer_of [] = None
integer_of (first ∷ rest) =
    if first == 45 then option_map (λ n. neg_ℤ (pos n)) (number_up_to 9223372036854775808 rest)
    else option_map pos (number_up_to 9223372036854775807 (first ∷ rest))
