-- What std's reader of integers reads, in the words of the literals of integers.
use Rattle.std.proofs.Common.{w64, zero, suc, ◌≡◌, ◌≢◌, ◌==◌, ◌<◌, ◌≤◌, ◌∙◌, arith, ℕ, ℤ, pos, neg_ℤ, Bool, true, false, eqb, if◌then◌else◌, nat_le, List, [], ◌∷◌, Option, Some, None, Result, Ok, Err, length, get_or, sym, ap, refl, leb}
use Rattle.std.specs.Prelude.{◌&&◌}
use Rattle.std.specs.Option.{option_map}
use Rattle.std.specs.Result.{OkIff, result_ok}
use Rattle.std.specs.Str.{all_ascii_digits, IsAscii, IsUtf8, is_utf8}
use Rattle.std.specs.Str.Parse.{digits_value, ParsesSigned}
use Rattle.std.proofs.lemmas.Bool.{leb-true, le-leb, eqb-true, eqb-false}
use Rattle.std.proofs.lemmas.Str.Parse.{IsNumeralModel, numerals_by_value, tells_all_ascii_digits, parse_signed_minus, parse_signed_plain}
use Rattle.std.proofs.lemmas.Fmt.{IsAscii-from_digits}
use Rattle.std.proofs.lemmas.Str.{IsUtf8-from_ascii, IsUtf8-from_is_utf8}
use Rattle.port_values.specs.Values.{is_int}
use Rattle.port_values.specs.Leaves.{kept_by, negative, natural_of, int_of}

-- one digit or more, and nothing else
abbrev is_numeral : List ℕ → Bool
is_numeral digits = nat_le 1 (length digits) && all_ascii_digits digits

-- the number that digits write, if it is at most this
abbrev number_up_to : ℕ → List ℕ → Option ℕ
number_up_to most digits = if is_numeral digits && nat_le (digits_value 10 digits) most then Some (digits_value 10 digits) else None

abbrev plain_int : List ℕ → Option ℤ
plain_int [] = None
plain_int (first ∷ rest) =
    if first == 45 then option_map (λ n. neg_ℤ (pos n)) (number_up_to 9223372036854775808 rest)
    else option_map pos (number_up_to 9223372036854775807 (first ∷ rest))

own : IsNumeralModel (λ ds. all_ascii_digits ds ≡ true) (digits_value 10)
own = numerals_by_value _ tells_all_ascii_digits

both_true : (a b : Bool) → a && b ≡ true → (a ≡ true) × (b ≡ true)
both_true true b h = (refl, h)
both_true false b h = (cc, cc)

and_true : (a b : Bool) → a ≡ true → b ≡ true → a && b ≡ true
and_true a b h k = ap (λ x. x && b) h ∙ k

-- a result that is Ok just where a test passes
by_test : {E : Type 0} (r : Result ℤ E) (Q : Type 0) (x : ℤ) (test : Bool) → (test ≡ true → Q) → (Q → test ≡ true) → OkIff r Q x → result_ok r ≡ (if test then Some x else None)
by_test (Ok y) Q x true to from h = ap Some h.1
by_test (Ok y) Q x false to from h = let contradiction : false ≡ true = from h.0 in cc
by_test (Err e) Q x true to from h = absurd (h (to refl))
by_test (Err e) Q x false to from h = refl

map_test : (f : ℕ → ℤ) (n : ℕ) (test : Bool) → option_map f (if test then Some n else None) ≡ (if test then Some (f n) else None)
map_test f n true = refl
map_test f n false = refl

-- what a reader of these digits gives is the number that they write, if it is small enough
read_number : {E : Type 0} (r : Result ℤ E) (f : ℕ → ℤ) (most : ℕ) (digits : List ℕ) → OkIff r ((all_ascii_digits digits ≡ true) × (0 < length digits) × (digits_value 10 digits ≤ most)) (f (digits_value 10 digits)) → result_ok r ≡ option_map f (number_up_to most digits)
read_number r f most digits h =
    by_test r _ (f (digits_value 10 digits)) (is_numeral digits && leb (digits_value 10 digits) most)
    (λ passes.
    let parts = both_true (is_numeral digits) (leb (digits_value 10 digits) most) passes in
    let numeral = both_true (leb 1 (length digits)) (all_ascii_digits digits) parts.0 in
    let some : 1 ≤ length digits = leb-true 1 (length digits) numeral.0 in
    (numeral.1, omega arith, leb-true (digits_value 10 digits) most parts.1))
    (λ holds.
    and_true (is_numeral digits) (leb (digits_value 10 digits) most)
    (and_true (leb 1 (length digits)) (all_ascii_digits digits) (le-leb 1 (length digits) (omega (arith, holds.1))) holds.0)
    (le-leb (digits_value 10 digits) most holds.2))
    h
    ∙ sym (map_test f (digits_value 10 digits) (is_numeral digits && leb (digits_value 10 digits) most))

ok_iff_same : {E : Type 0} (r : Result ℤ E) (P Q : Type 0) (x : ℤ) → (P → Q) → (Q → P) → OkIff r P x → OkIff r Q x
ok_iff_same (Ok y) P Q x to from h = (to h.0, h.1)
ok_iff_same (Err e) P Q x to from h = λ q. h (from q)

by_sign : {E : Type 0} (first : ℕ) (rest : List ℕ) (r : Result ℤ E) (test : Bool) → eqb first 45 ≡ test → first ≢ 43 → ParsesSigned w64 10 (first ∷ rest) r → result_ok r ≡ (if test then option_map (λ n. neg_ℤ (pos n)) (number_up_to 9223372036854775808 rest) else option_map pos (number_up_to 9223372036854775807 (first ∷ rest)))
by_sign first rest r true is plain h = read_number r (λ n. neg_ℤ (pos n)) 9223372036854775808 rest (parse_signed_minus own w64 (first ∷ rest) r h (eqb-true first 45 is))
by_sign first rest r false is plain h =
    read_number r pos 9223372036854775807 (first ∷ rest)
    (ok_iff_same r _ _ _ (λ p. (p.0, p.1, omega (arith, p.2))) (λ p. (p.0, p.1, omega (arith, p.2)))
    (parse_signed_plain own w64 (first ∷ rest) r h plain (eqb-false first 45 is)))

integer_by_parse : {E : Type 0} (text : List ℕ) (r : Result ℤ E) → get_or text 0 0 ≢ 43 → ParsesSigned w64 10 text r → result_ok r ≡ plain_int text
integer_by_parse [] r plain h =
    read_number r pos 9223372036854775807 []
    (ok_iff_same r _ _ _ (λ p. (p.0, p.1, omega (arith, p.2))) (λ p. (p.0, p.1, omega (arith, p.2)))
    (parse_signed_plain own w64 [] r h plain (λ e. omega (arith, e))))
integer_by_parse (first ∷ rest) r plain h = by_sign first rest r (eqb first 45) refl plain h

false_numeral : (a : Bool) (digits : List ℕ) → all_ascii_digits digits ≡ false → a && all_ascii_digits digits ≡ false
false_numeral true digits h = h
false_numeral false digits h = refl

no_digits_none : (f : ℕ → ℤ) (most : ℕ) (digits : List ℕ) → all_ascii_digits digits ≡ false → option_map f (number_up_to most digits) ≡ None
no_digits_none f most digits h =
    ap (λ test. option_map f (if test && leb (digits_value 10 digits) most then Some (digits_value 10 digits) else None)) (false_numeral (leb 1 (length digits)) digits h)

-- a text of digits is ASCII
digits_ascii : (digits : List ℕ) → all_ascii_digits digits ≡ true → IsAscii digits
digits_ascii digits h = IsAscii-from_digits digits (own.to digits h)

ascii_cons : (first : ℕ) (rest : List ℕ) → first < 128 → IsAscii rest → IsAscii (first ∷ rest)
ascii_cons first rest low all zero = low
ascii_cons first rest low all (suc i) = all i

none_unless_utf8 : (f : ℕ → ℤ) (most : ℕ) (digits : List ℕ) (test : Bool) → all_ascii_digits digits ≡ test → (IsAscii digits → ⊥) → option_map f (number_up_to most digits) ≡ None
none_unless_utf8 f most digits true is other = absurd (other (digits_ascii digits is))
none_unless_utf8 f most digits false is other = no_digits_none f most digits is

none_by_sign : (first : ℕ) (rest : List ℕ) (test : Bool) → eqb first 45 ≡ test → (IsUtf8 (first ∷ rest) → ⊥) → (if test then option_map (λ n. neg_ℤ (pos n)) (number_up_to 9223372036854775808 rest) else option_map pos (number_up_to 9223372036854775807 (first ∷ rest))) ≡ None
none_by_sign first rest true is other =
    let sign : first ≡ 45 = eqb-true first 45 is in
    let low : first < 128 = omega arith in
    none_unless_utf8 (λ n. neg_ℤ (pos n)) 9223372036854775808 rest (all_ascii_digits rest) refl
    (λ ascii. other (IsUtf8-from_ascii (first ∷ rest) (ascii_cons first rest low ascii)))
none_by_sign first rest false is other =
    none_unless_utf8 pos 9223372036854775807 (first ∷ rest) (all_ascii_digits (first ∷ rest)) refl
    (λ ascii. other (IsUtf8-from_ascii (first ∷ rest) ascii))

-- what isn't UTF-8 is no integer
not_utf8_is_none : (text : List ℕ) → (IsUtf8 text → ⊥) → plain_int text ≡ None
not_utf8_is_none [] other = refl
not_utf8_is_none (first ∷ rest) other = none_by_sign first rest (eqb first 45) refl other

-- ---- the same integers

kept_up_to : (sign other : ℕ → ℤ) (most : ℕ) → ((n : ℕ) → other n ≡ sign n) → ((n : ℕ) → is_int (sign n) ≡ nat_le n most) → (digits : List ℕ)
    → option_map other (number_up_to most digits) ≡ kept_by is_int (option_map sign (natural_of digits))
kept_up_to sign other most alike within [] = refl
kept_up_to sign other most alike within (d ∷ digits) =
    ap (λ b. option_map other (if b && all_ascii_digits (d ∷ digits) && nat_le (digits_value 10 (d ∷ digits)) most then Some (digits_value 10 (d ∷ digits)) else None)) (le-leb 1 (length (d ∷ digits)) (omega arith))
    ∙ go (all_ascii_digits (d ∷ digits)) (digits_value 10 (d ∷ digits))
  where
    fits : (b : Bool) (n : ℕ) → option_map other (if b then Some n else None) ≡ (if b then Some (sign n) else None)
    fits true n = ap (λ x. Some x) (alike n)
    fits false n = refl

    go : (all : Bool) (n : ℕ) → option_map other (if true && all && nat_le n most then Some n else None) ≡ kept_by is_int (option_map sign (if all then Some n else None))
    go true n = fits (nat_le n most) n ∙ sym (ap (λ b. if b then Some (sign n) else None) (within n))
    go false n = refl

below_next : (n : ℕ) → is_int (pos n) ≡ nat_le n 9223372036854775807
below_next n = grind arith

minus_within : (n : ℕ) → is_int (negative n) ≡ nat_le n 9223372036854775808
minus_within zero = refl
minus_within (suc n) = grind arith

minus_alike : (n : ℕ) → neg_ℤ (pos n) ≡ negative n
minus_alike zero = refl
minus_alike (suc n) = refl

same_int : (text : List ℕ) → plain_int text ≡ int_of text
same_int [] = refl
same_int (first ∷ rest) = go (first == 45) where
  go : (b : Bool) → (if b then option_map (λ n. neg_ℤ (pos n)) (number_up_to 9223372036854775808 rest) else option_map pos (number_up_to 9223372036854775807 (first ∷ rest)))
      ≡ kept_by is_int (if b then option_map negative (natural_of rest) else option_map pos (natural_of (first ∷ rest)))
  go true = kept_up_to negative (λ n. neg_ℤ (pos n)) 9223372036854775808 minus_alike minus_within rest
  go false = kept_up_to pos pos 9223372036854775807 (λ n. refl) below_next (first ∷ rest)

pub int_by_parse : {E : Type 0} (text : List ℕ) (r : Result ℤ E) → get_or text 0 0 ≢ 43 → ParsesSigned w64 10 text r → result_ok r ≡ int_of text
int_by_parse text r plain h = integer_by_parse text r plain h ∙ same_int text

pub not_utf8_is_no_int : (text : List ℕ) → (IsUtf8 text → ⊥) → None ≡ int_of text
not_utf8_is_no_int text other = sym (sym (same_int text) ∙ not_utf8_is_none text other)

-- what isn't UTF-8 doesn't pass the test
pub no_utf8 : (text : List ℕ) → (IsUtf8 text → ⊥) → false ≡ is_utf8 text
no_utf8 text other = go (is_utf8 text) refl where
  go : (b : Bool) → is_utf8 text ≡ b → false ≡ b
  go false e = refl
  go true e = absurd (other (IsUtf8-from_is_utf8 text e))
