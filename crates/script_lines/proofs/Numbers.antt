-- What std's reader of numbers reads, for numbers of one to nine digits.
use Rattle.std.proofs.Common.{◌≡◌, ◌≢◌, ◌<◌, ◌≤◌, ◌∙◌, arith, ℕ, true, false, Bool, List, [], ◌∷◌, Some, None, Result, Ok, Err, length, get_or, sym, ap, refl, leb, if◌then◌else◌}
use Rattle.std.specs.Prelude.{◌&&◌, ◌^◌}
use Rattle.std.specs.List.{list_all}
use Rattle.std.specs.Result.{OkIff, result_ok}
use Rattle.std.specs.Str.{IsUtf8, is_utf8}
use Rattle.std.specs.Str.Parse.{digits_value, ParsesUnsigned}
use Rattle.std.proofs.lemmas.Bool.{leb-true, le-leb}
use Rattle.std.proofs.lemmas.Str.Parse.{IsNumeralModel, IsDigitsTest, numerals_by_value, not_in_digits, digits_value_short, parse_plain}
use Rattle.std.proofs.lemmas.Fmt.{IsAscii-from_digits}
use Rattle.std.proofs.lemmas.Str.{IsUtf8-from_ascii, IsUtf8-from_is_utf8}
use Rattle.elm_base.specs.Letters.{is_digit}

both_true : (a b : Bool) → a && b ≡ true → (a ≡ true) × (b ≡ true)
both_true true b h = (refl, h)
both_true false b h = (cc, cc)

and_true : (a b : Bool) → a ≡ true → b ≡ true → a && b ≡ true
and_true a b h k = ap (λ x. x && b) h ∙ k

-- the digits are tested one by one
tested : IsDigitsTest (λ ds. list_all is_digit ds ≡ true)
tested = record {
  empty = refl;
  parts = λ c cs h.
      let parts = both_true (is_digit c) (list_all is_digit cs) h in
      let bounds = both_true (leb 48 c) (leb c 57) parts.0 in
      ((leb-true 48 c bounds.0, leb-true c 57 bounds.1), parts.1);
  more = λ c cs range h. and_true (is_digit c) (list_all is_digit cs) (and_true (leb 48 c) (leb c 57) (le-leb 48 c range.0) (le-leb c 57 range.1)) h;
}

own : IsNumeralModel (λ ds. list_all is_digit ds ≡ true) (digits_value 10)
own = numerals_by_value _ tested

read : {E : Type 0} (digits : List ℕ) (r : Result ℕ E) → list_all is_digit digits ≡ true → 0 < length digits → length digits ≤ 9 → OkIff r ((list_all is_digit digits ≡ true) × (0 < length digits) × (digits_value 10 digits < 2 ^ 32)) (digits_value 10 digits) → result_ok r ≡ Some (digits_value 10 digits)
read digits (Ok n) all some few h = ap Some h.1
read digits (Err e) all some few h = absurd (h (all, some, omega (arith, digits_value_short own digits 9 all few)))

-- one to nine digits are read as the number that they write
pub number_by_parse : {E : Type 0} (digits : List ℕ) (r : Result ℕ E) → list_all is_digit digits ≡ true → 0 < length digits → length digits ≤ 9 → ParsesUnsigned 32 10 digits r → result_ok r ≡ Some (digits_value 10 digits)
number_by_parse digits r all some few h =
    read digits r all some few
    (parse_plain own 32 digits r h (λ plus. not_in_digits own digits 43 all (λ range. omega (arith, range.0)) 0 some plus))

-- digits are UTF-8
pub digits_utf8 : (digits : List ℕ) → list_all is_digit digits ≡ true → IsUtf8 digits
digits_utf8 digits all = IsUtf8-from_ascii digits (IsAscii-from_digits digits (own.to digits all))

not_utf8 : (text : List ℕ) (test : Bool) → is_utf8 text ≡ test → (IsUtf8 text → ⊥) → false ≡ test
not_utf8 text true is other = absurd (other (IsUtf8-from_is_utf8 text is))
not_utf8 text false is other = refl

-- what isn't UTF-8 doesn't pass the test
pub no_utf8 : (text : List ℕ) → (IsUtf8 text → ⊥) → false ≡ is_utf8 text
no_utf8 text other = not_utf8 text (is_utf8 text) refl other
