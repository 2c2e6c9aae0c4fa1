-- What is printed without parts is a literal of itself.
use Rattle.std.proofs.Common.{◌≡◌, ◌==◌, ◌<◌, ◌^◌, ℕ, ℤ, suc, pos, negsuc, Bool, true, false, true≢false, if◌then◌else◌, nat_lt, IsTrue, arith, List, [], ◌∷◌, ◌++◌, length, Option, Some, None, refl, sym, ◌∙◌, ap, subst, decimal}
use Rattle.std.specs.List.{flat_map}
use Rattle.std.proofs.lemmas.List.{append_assoc}
use Rattle.std.specs.Option.{option_map}
use Rattle.std.specs.Fmt.{signed_decimal}
use Rattle.std.specs.Str.{all_ascii_digits, is_utf8}
use Rattle.std.specs.Str.Parse.{digits_value}
use Rattle.std.proofs.lemmas.Fmt.{decimal_is_IsNumeral, digits_decimal}
use Rattle.std.proofs.lemmas.Str.Parse.{numerals_by_value, tells_all_ascii_digits}
use Rattle.elm_base.specs.Quoted.{escaped, quoted}
use Rattle.port_values.specs.Values.{is_int}
use Rattle.port_values.specs.Leaves.{kept_by, negative, natural_of, number_of, int_of, onto, nothing_behind, inside_of, between_quotes, text_of, truth_of}
use Rattle.port_values.specs.ValueText.{truth_text}

-- ---- integers

number : (n : ℕ) → (byte : ℕ) → (byte == n) ≡ true → byte ≡ n
number n byte h = grind (arith, h)

kept : {A : Type 0} (test : A → Bool) (found : A) (read : Option A) → read ≡ Some found → test found ≡ true → kept_by test read ≡ Some found
kept test found read is holds =
    ap (kept_by test) is ∙ ap (λ b. if b then Some found else None) holds

none_is_less : 0 < 0 → ⊥
none_is_less h = omega (arith, h)

-- digits read as an integer
natural_is : (ds : List ℕ) → 0 < length ds → all_ascii_digits ds ≡ true → natural_of ds ≡ Some (digits_value 10 ds)
natural_is [] some all = absurd (none_is_less some)
natural_is (d ∷ ds) some all = ap (λ b. if b then Some (digits_value 10 (d ∷ ds)) else None) all

unsigned : (d : ℕ) (ds : List ℕ) (minus : Bool) → (d == 45) ≡ minus → all_ascii_digits (d ∷ ds) ≡ true
    → (if minus then option_map negative (natural_of ds) else option_map pos (natural_of (d ∷ ds))) ≡ option_map pos (natural_of (d ∷ ds))
unsigned d ds false is all = refl
unsigned d ds true is all = absurd (true≢false (sym (subst (λ k. all_ascii_digits (k ∷ ds) ≡ true) (number 45 d is) all)))

number_is : (ds : List ℕ) → 0 < length ds → all_ascii_digits ds ≡ true → number_of ds ≡ Some (pos (digits_value 10 ds))
number_is [] some all = absurd (none_is_less some)
number_is (d ∷ ds) some all = unsigned d ds (d == 45) refl all ∙ ap (option_map pos) (natural_is (d ∷ ds) some all)

small : (n : ℕ) → nat_lt n 9223372036854775808 ≡ true → n < 2 ^ 64
small n h = grind (arith, h)

next_small : (n : ℕ) → nat_lt n 9223372036854775808 ≡ true → suc n < 2 ^ 64
next_small n h = grind (arith, h)

all_digits : (n : ℕ) → n < 2 ^ 64 → all_ascii_digits (decimal n) ≡ true
all_digits n h = digits_decimal (numerals_by_value _ tells_all_ascii_digits) n h

pos_is : (n : ℕ) → n < 2 ^ 64 → number_of (decimal n) ≡ Some (pos n)
pos_is n h =
    let numeral = decimal_is_IsNumeral n h in
    number_is (decimal n) numeral.0.0 (all_digits n h) ∙ ap (λ k. Some (pos k)) numeral.1

negative_is : (n : ℕ) → suc n < 2 ^ 64 → number_of (45 ∷ decimal (suc n)) ≡ Some (negsuc n)
negative_is n h =
    let numeral = decimal_is_IsNumeral (suc n) h in
    ap (option_map negative) (natural_is (decimal (suc n)) numeral.0.0 (all_digits (suc n) h)) ∙ ap (λ k. Some (negative k)) numeral.1

pub int_is : (number : ℤ) → IsTrue (is_int number) → int_of (signed_decimal number) ≡ Some number
int_is (pos n) h = kept is_int (pos n) (number_of (decimal n)) (pos_is n (small n h)) h
int_is (negsuc n) h = kept is_int (negsuc n) (number_of (45 ∷ decimal (suc n))) (negative_is n (next_small n h)) h

-- ---- texts

again : (byte : ℕ) (bytes rest : List ℕ) → inside_of false rest ≡ Some bytes → inside_of false (escaped 34 byte ++ rest) ≡ Some (byte ∷ bytes)
again byte bytes rest is = quote (byte == 34) refl where
  last : (t : Bool) → (byte == 13) ≡ t → (byte == 34) ≡ false → (byte == 92) ≡ false → (byte == 10) ≡ false
      → inside_of false ((if t then 92 ∷ 114 ∷ [] else byte ∷ []) ++ rest) ≡ Some (byte ∷ bytes)
  last true h a b c = ap (onto (Some 13)) is ∙ ap (λ k. Some (k ∷ bytes)) (sym (number 13 byte h))
  last false h a b c =
      ap (λ t. if t then nothing_behind rest else (if byte == 92 then inside_of true rest else (if byte == 10 then None else onto (Some byte) (inside_of false rest)))) a
      ∙ ap (λ t. if t then inside_of true rest else (if byte == 10 then None else onto (Some byte) (inside_of false rest))) b
      ∙ ap (λ t. if t then None else onto (Some byte) (inside_of false rest)) c
      ∙ ap (onto (Some byte)) is

  tab : (t : Bool) → (byte == 9) ≡ t → (byte == 34) ≡ false → (byte == 92) ≡ false → (byte == 10) ≡ false
      → inside_of false ((if t then 92 ∷ 116 ∷ [] else (if byte == 13 then 92 ∷ 114 ∷ [] else byte ∷ [])) ++ rest) ≡ Some (byte ∷ bytes)
  tab true h a b c = ap (onto (Some 9)) is ∙ ap (λ k. Some (k ∷ bytes)) (sym (number 9 byte h))
  tab false h a b c = last (byte == 13) refl a b c

  newline : (t : Bool) → (byte == 10) ≡ t → (byte == 34) ≡ false → (byte == 92) ≡ false
      → inside_of false ((if t then 92 ∷ 110 ∷ [] else (if byte == 9 then 92 ∷ 116 ∷ [] else (if byte == 13 then 92 ∷ 114 ∷ [] else byte ∷ []))) ++ rest) ≡ Some (byte ∷ bytes)
  newline true h a b = ap (onto (Some 10)) is ∙ ap (λ k. Some (k ∷ bytes)) (sym (number 10 byte h))
  newline false h a b = tab (byte == 9) refl a b h

  backslash : (t : Bool) → (byte == 92) ≡ t → (byte == 34) ≡ false
      → inside_of false ((if t then 92 ∷ 92 ∷ [] else (if byte == 10 then 92 ∷ 110 ∷ [] else (if byte == 9 then 92 ∷ 116 ∷ [] else (if byte == 13 then 92 ∷ 114 ∷ [] else byte ∷ [])))) ++ rest) ≡ Some (byte ∷ bytes)
  backslash true h a = ap (onto (Some 92)) is ∙ ap (λ k. Some (k ∷ bytes)) (sym (number 92 byte h))
  backslash false h a = newline (byte == 10) refl a h

  quote : (t : Bool) → (byte == 34) ≡ t
      → inside_of false ((if t then 92 ∷ 34 ∷ [] else (if byte == 92 then 92 ∷ 92 ∷ [] else (if byte == 10 then 92 ∷ 110 ∷ [] else (if byte == 9 then 92 ∷ 116 ∷ [] else (if byte == 13 then 92 ∷ 114 ∷ [] else byte ∷ []))))) ++ rest) ≡ Some (byte ∷ bytes)
  quote true h = ap (onto (Some 34)) is ∙ ap (λ k. Some (k ∷ bytes)) (sym (number 34 byte h))
  quote false h = backslash (byte == 92) refl h

inside_is : (bytes : List ℕ) → inside_of false (flat_map (escaped 34) bytes ++ 34 ∷ []) ≡ Some bytes
inside_is [] = refl
inside_is (byte ∷ bytes) =
    ap (inside_of false) (append_assoc (escaped 34 byte) (flat_map (escaped 34) bytes) (34 ∷ []))
    ∙ again byte bytes (flat_map (escaped 34) bytes ++ 34 ∷ []) (inside_is bytes)

-- ---- truths and the unit

pub truth_is : (truth : Bool) → truth_of (truth_text truth) ≡ Some truth
truth_is true = refl
truth_is false = refl

pub text_is : (bytes : List ℕ) → IsTrue (is_utf8 bytes) → text_of (quoted 34 bytes) ≡ Some bytes
text_is bytes valid = kept is_utf8 bytes (between_quotes (quoted 34 bytes)) (inside_is bytes) valid
