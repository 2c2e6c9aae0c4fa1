-- Which texts are UTF-8: bytes below 128, and chars whose quotes are escaped.
use Rattle.std.proofs.Common.{◌≡◌, ◌<◌, ◌≤◌, ◌==◌, ◌&&◌, ◌||◌, ◌^◌, ◌+◌, ◌/◌, ℕ, ℤ, decimal, zero, suc, pos, negsuc, Bool, true, false, true≢false, nat_lt, nat_le, if◌then◌else◌, IsUtf8, List, [], ◌∷◌, ◌++◌, codes, refl, sym, ◌∙◌, ap, subst, arith}
use Rattle.std.specs.List.{list_all, flat_map}
use Rattle.std.specs.Char.{encode_utf8, is_ascii_digit, IsScalar}
use Rattle.std.specs.Str.{IsAscii, all_scalars, all_ascii_digits, encode_utf8_all}
use Rattle.std.specs.Fmt.{signed_decimal}
use Rattle.std.proofs.lemmas.List.{append-nil}
use Rattle.std.proofs.lemmas.Grind.{flat_map-append}
use Rattle.std.proofs.lemmas.Str.{IsUtf8-append, IsUtf8-from_ascii, IsUtf8-encode, IsUtf8-nil, encode_ascii}
use Rattle.std.proofs.lemmas.Fmt.{digits_decimal}
use Rattle.std.proofs.lemmas.Str.Parse.{numerals_by_value, tells_all_ascii_digits}
use lib.Utf8.{encode, next}
use Rattle.elm_base.specs.Letters.{is_name_byte}
use Rattle.elm_base.specs.Quoted.{escaped, quoted}
use Rattle.port_values.specs.Values.{is_int}

pub and_left : (a b : Bool) → (a && b) ≡ true → a ≡ true
and_left true b h = refl
and_left false b h = h

pub and_right : (a b : Bool) → (a && b) ≡ true → b ≡ true
and_right true b h = h
and_right false b h = absurd (true≢false (sym h))

-- ---- bytes below 128

abbrev pub is_low : ℕ → Bool
is_low byte = nat_lt byte 128

low_ascii : (bs : List ℕ) → list_all is_low bs ≡ true → IsAscii bs
low_ascii [] h i = omega arith
low_ascii (b ∷ bs) h zero = let low = and_left (is_low b) _ h in grind (arith, low)
low_ascii (b ∷ bs) h (suc i) = low_ascii bs (and_right (is_low b) _ h) i

pub low_text : (bs : List ℕ) → list_all is_low bs ≡ true → IsUtf8 bs
low_text bs h = IsUtf8-from_ascii bs (low_ascii bs h)

name_byte_low : (byte : ℕ) → is_name_byte byte ≡ true → is_low byte ≡ true
name_byte_low byte h = grind (arith, h)

pub name_low : (bs : List ℕ) → list_all is_name_byte bs ≡ true → list_all is_low bs ≡ true
name_low [] h = refl
name_low (b ∷ bs) h =
    ap (λ t. t && list_all is_low bs) (name_byte_low b (and_left (is_name_byte b) _ h)) ∙ name_low bs (and_right (is_name_byte b) _ h)

input_byte_low : (byte : ℕ) → (is_name_byte byte || byte == 46) ≡ true → is_low byte ≡ true
input_byte_low byte h = grind (arith, h)

pub input_low : (bs : List ℕ) → list_all (λ byte. is_name_byte byte || byte == 46) bs ≡ true → list_all is_low bs ≡ true
input_low [] h = refl
input_low (b ∷ bs) h =
    ap (λ t. t && list_all is_low bs) (input_byte_low b (and_left (is_name_byte b || b == 46) _ h)) ∙ input_low bs (and_right (is_name_byte b || b == 46) _ h)

-- ---- integers

digit_low : (byte : ℕ) → is_ascii_digit byte ≡ true → is_low byte ≡ true
digit_low byte h = grind (arith, h)

digits_low : (bs : List ℕ) → all_ascii_digits bs ≡ true → list_all is_low bs ≡ true
digits_low [] h = refl
digits_low (b ∷ bs) h = ap (λ t. t && list_all is_low bs) (digit_low b (and_left (is_ascii_digit b) _ h)) ∙ digits_low bs (and_right (is_ascii_digit b) _ h)

decimal_low : (n : ℕ) → n < 2 ^ 64 → list_all is_low (decimal n) ≡ true
decimal_low n h = digits_low (decimal n) (digits_decimal (numerals_by_value _ tells_all_ascii_digits) n h)

pub int_low : (number : ℤ) → is_int number ≡ true → list_all is_low (signed_decimal number) ≡ true
int_low (pos n) h = decimal_low n (grind (arith, h))
int_low (negsuc n) h = decimal_low (suc n) (grind (arith, h))

-- ---- escaped bytes

abbrev escape : ℕ → List ℕ
escape = escaped 34

low_escape : (byte : ℕ) → byte < 128 → list_all is_low (escape byte) ≡ true
low_escape byte low = first (byte == 34) where
  own : is_low byte ≡ true
  own = grind (arith, low)

  fifth : (b : Bool) → list_all is_low (if b then codes "\\r" else byte ∷ []) ≡ true
  fifth true = refl
  fifth false = ap (λ t. t && true) own

  fourth : (b : Bool) → list_all is_low (if b then codes "\\t" else (if byte == 13 then codes "\\r" else byte ∷ [])) ≡ true
  fourth true = refl
  fourth false = fifth (byte == 13)

  third : (b : Bool) → list_all is_low (if b then codes "\\n" else (if byte == 9 then codes "\\t" else (if byte == 13 then codes "\\r" else byte ∷ []))) ≡ true
  third true = refl
  third false = fourth (byte == 9)

  second : (b : Bool) → list_all is_low (if b then codes "\\\\" else (if byte == 10 then codes "\\n" else (if byte == 9 then codes "\\t" else (if byte == 13 then codes "\\r" else byte ∷ [])))) ≡ true
  second true = refl
  second false = third (byte == 10)

  first : (b : Bool) → list_all is_low (if b then 92 ∷ 34 ∷ [] else (if byte == 92 then codes "\\\\" else (if byte == 10 then codes "\\n" else (if byte == 9 then codes "\\t" else (if byte == 13 then codes "\\r" else byte ∷ []))))) ≡ true
  first true = refl
  first false = second (byte == 92)

-- a byte of 128 or more stands as it is
high_escape : (byte : ℕ) → 128 ≤ byte → escape byte ≡ byte ∷ []
high_escape byte h = grind (arith, h)

high_alone : (bs : List ℕ) → list_all (λ byte. nat_le 128 byte) bs ≡ true → flat_map escape bs ≡ bs
high_alone [] h = refl
high_alone (b ∷ bs) h =
    let first = and_left (nat_le 128 b) _ h in
    let high : 128 ≤ b = grind (arith, first) in
    ap (λ text. text ++ flat_map escape bs) (high_escape b high) ∙ ap (λ rest. b ∷ rest) (high_alone bs (and_right (nat_le 128 b) _ h))

high : (byte : ℕ) → 128 ≤ byte → nat_le 128 byte ≡ true
high byte h = grind (arith, h)

both : (a b : Bool) → a ≡ true → b ≡ true → (a && b) ≡ true
both false b h k = h
both true b h k = k

abbrev is_high : ℕ → Bool
is_high byte = nat_le 128 byte

high_bytes : (c : ℕ) → 128 ≤ c → list_all is_high (encode_utf8 c) ≡ true
unfolding encode
high_bytes c h = first (nat_lt c 128) refl where
  two : List ℕ
  two = (192 + c / 64) ∷ next c ∷ []

  three : List ℕ
  three = (224 + c / 4096) ∷ next (c / 64) ∷ next c ∷ []

  four : List ℕ
  four = (240 + c / 262144) ∷ next (c / 4096) ∷ next (c / 64) ∷ next c ∷ []

  two_high : list_all is_high two ≡ true
  two_high = both (is_high (192 + c / 64)) _ (high _ (omega arith)) (both (is_high (next c)) true (high _ (omega arith)) refl)

  three_high : list_all is_high three ≡ true
  three_high = both (is_high (224 + c / 4096)) _ (high _ (omega arith)) (both (is_high (next (c / 64))) _ (high _ (omega arith)) (both (is_high (next c)) true (high _ (omega arith)) refl))

  four_high : list_all is_high four ≡ true
  four_high = both (is_high (240 + c / 262144)) _ (high _ (omega arith)) (both (is_high (next (c / 4096))) _ (high _ (omega arith)) (both (is_high (next (c / 64))) _ (high _ (omega arith)) (both (is_high (next c)) true (high _ (omega arith)) refl)))

  third : (b : Bool) → list_all is_high (if b then three else four) ≡ true
  third true = three_high
  third false = four_high

  second : (b : Bool) → list_all is_high (if b then two else (if nat_lt c 65536 then three else four)) ≡ true
  second true = two_high
  second false = third (nat_lt c 65536)

  first : (b : Bool) → nat_lt c 128 ≡ b → list_all is_high (if b then c ∷ [] else (if nat_lt c 2048 then two else (if nat_lt c 65536 then three else four))) ≡ true
  first true e = absurd (grind (arith, e, h))
  first false e = second (nat_lt c 2048)

escaped_char : (c : ℕ) → IsScalar c → IsUtf8 (flat_map escape (encode_utf8 c))
escaped_char c s = go (nat_lt c 128) refl where
  go : (b : Bool) → nat_lt c 128 ≡ b → IsUtf8 (flat_map escape (encode_utf8 c))
  go true e =
      let low : c < 128 = grind (arith, e) in
      subst (λ bs. IsUtf8 (flat_map escape bs)) (sym (encode_ascii c low))
      (subst IsUtf8 (sym (append-nil (escape c))) (low_text (escape c) (low_escape c low)))
  go false e =
      let above : 128 ≤ c = grind (arith, e) in
      subst IsUtf8 (sym (high_alone (encode_utf8 c) (high_bytes c above))) (IsUtf8-encode c s)

escaped_chars : (cs : List ℕ) → all_scalars cs ≡ true → IsUtf8 (flat_map escape (encode_utf8_all cs))
escaped_chars [] h = IsUtf8-nil
escaped_chars (c ∷ cs) h =
    let first = and_left _ (all_scalars cs) h in
    subst IsUtf8 (sym (flat_map-append escape (encode_utf8 c) (encode_utf8_all cs)))
    (IsUtf8-append _ _ (escaped_char c first) (escaped_chars cs (and_right _ (all_scalars cs) h)))

pub quoted_text : (bytes : List ℕ) → IsUtf8 bytes → IsUtf8 (quoted 34 bytes)
quoted_text bytes h =
    IsUtf8-append (34 ∷ []) (flat_map escape bytes ++ 34 ∷ []) (low_text (34 ∷ []) refl)
    (IsUtf8-append (flat_map escape bytes) (34 ∷ []) (subst (λ bs. IsUtf8 (flat_map escape bs)) h.1.1 (escaped_chars h.0 h.1.0)) (low_text (34 ∷ []) refl))
