-- The reader of numbers meets the definition, and nothing else does.
use Rattle.std.proofs.Common.{◌≡◌, ℕ, ◌+◌, ◌-◌, ◌*◌, ◌<◌, ◌≤◌, Bool, true, false, [], ◌∷◌, ◌++◌, length, take, drop, Ok, Err, refl, sym, ap, ◌∙◌, subst, arith, ltb, ltb-true, ltb-false, lit≤, zero-add, take-append-drop}
use Rattle.std.specs.List.{prefix_len, list_all}
use Rattle.std.proofs.lemmas.Bool.{and_parts}
use Rattle.std.specs.Prelude.{slice_index, if◌then◌else◌}
use Rattle.elm_base.specs.declared.token.TokenKind.TheVariants as kind
use Rattle.elm_base.specs.declared.fault.FaultKind.TheVariants as fault
use Rattle.layout_lexer.specs.declared.byte_class.Class.TheVariants.{Digit}
use Rattle.layout_lexer.specs.Chars.{Text, is_in}
use Rattle.layout_lexer.specs.Marks.{max_int, goes_on}
use Rattle.layout_lexer.specs.Spellings.{IsLongest, IsRun, value_from, value_of}
use Rattle.layout_lexer.specs.Tokens.{int, other_number, wide_number}
use Rattle.layout_lexer.specs.Pieces.{Read, number, fits_from, token, piece}
use Rattle.layout_lexer.proofs.Classes.{its_class}
use Rattle.layout_lexer.proofs.Longest.{front_taken, front_dropped, longest_run, longest_run_len}
use Rattle.layout_lexer.proofs.Dispatch.{Meets, by_plain_class}

value_grows : (v : ℕ) (ds : Text) → v ≤ value_from v ds
value_grows v [] = omega arith
value_grows v (d ∷ ds) = omega (arith, value_grows (v * 10 + (d - 48)) ds)

fits_true : (v : ℕ) (ds : Text) → v ≤ max_int → fits_from v ds ≡ true → value_from v ds ≤ max_int
fits_true v [] h e = h
fits_true v (d ∷ ds) h e = go (ltb max_int (v * 10 + (d - 48))) refl e (fits_true (v * 10 + (d - 48)) ds)
  where
    go : (t : Bool) → ltb max_int (v * 10 + (d - 48)) ≡ t → (if t then false else fits_from (v * 10 + (d - 48)) ds) ≡ true
        → (v * 10 + (d - 48) ≤ max_int → fits_from (v * 10 + (d - 48)) ds ≡ true → value_from (v * 10 + (d - 48)) ds ≤ max_int) → value_from (v * 10 + (d - 48)) ds ≤ max_int
    go true f g more = absurd (cc)
    go false f g more = more (ltb-false max_int (v * 10 + (d - 48)) f) g

fits_false : (v : ℕ) (ds : Text) → fits_from v ds ≡ false → max_int < value_from v ds
fits_false v [] e = absurd (cc)
fits_false v (d ∷ ds) e = go (ltb max_int (v * 10 + (d - 48))) refl e (fits_false (v * 10 + (d - 48)) ds) (value_grows (v * 10 + (d - 48)) ds)
  where
    go : (t : Bool) → ltb max_int (v * 10 + (d - 48)) ≡ t → (if t then false else fits_from (v * 10 + (d - 48)) ds) ≡ false
        → (fits_from (v * 10 + (d - 48)) ds ≡ false → max_int < value_from (v * 10 + (d - 48)) ds) → v * 10 + (d - 48) ≤ value_from (v * 10 + (d - 48)) ds → max_int < value_from (v * 10 + (d - 48)) ds
    go true f g more grows = let h = ltb-true max_int (v * 10 + (d - 48)) f in above max_int (v * 10 + (d - 48)) (value_from (v * 10 + (d - 48)) ds) h grows
      where
        above : (m a b : ℕ) → m < a → a ≤ b → m < b
        above m a b h k = omega arith
    go false f g more grows = more g

pub fits_small : (ds : Text) → value_of ds ≤ max_int → fits_from 0 ds ≡ true
fits_small ds h = go (fits_from 0 ds) refl
  where
    apart : (m a : ℕ) → m < a → a ≤ m → ⊥
    apart m a x y = omega arith

    go : (t : Bool) → fits_from 0 ds ≡ t → t ≡ true
    go true e = refl
    go false e = absurd (apart max_int (value_of ds) (fits_false 0 ds e) h)

pub fits_large : (ds : Text) → max_int < value_of ds → fits_from 0 ds ≡ false
fits_large ds h = go (fits_from 0 ds) refl
  where
    apart : (m a : ℕ) → m < a → a ≤ m → ⊥
    apart m a x y = omega arith

    go : (t : Bool) → fits_from 0 ds ≡ t → t ≡ false
    go false e = refl
    go true e = absurd (apart max_int (value_of ds) h (fits_true 0 ds (lit≤ tt) e))

abbrev number_at : Text → ℕ → Read
number_at text len =
    if goes_on (drop len text) then Err fault.Excluded else (if fits_from 0 (take len text) then Ok (token kind.Int len) else Err fault.IntTooWide)

number_is : (text : Text) → number text ≡ number_at text (prefix_len (is_in Digit) text)
unfolding number
number_is text = ap (number_at text) (zero-add (prefix_len (is_in Digit) text))

pub number_meets : (joined : Bool) (text : Text) → 0 < prefix_len (is_in Digit) text → Meets joined text (number text)
number_meets joined text h = subst (Meets joined text) (sym (number_is text)) (go (goes_on rest) refl (fits_from 0 s) refl)
  where
    n : ℕ
    n = prefix_len (is_in Digit) text

    s : Text
    s = take n text

    rest : Text
    rest = drop n text

    go : (t : Bool) → goes_on rest ≡ t → (u : Bool) → fits_from 0 s ≡ u → Meets joined text (if t then Err fault.Excluded else (if u then Ok (token kind.Int n) else Err fault.IntTooWide))
    go true e u f = other_number s rest (longest_run Digit text h) (sym (take-append-drop n text)) e refl
    go false e true f = int s rest (longest_run Digit text h) (sym (take-append-drop n text)) e (fits_true 0 s (lit≤ tt) f) refl
    go false e false f = wide_number s rest (longest_run Digit text h) (sym (take-append-drop n text)) e (fits_false 0 s f) refl

digit_first : (s rest : Text) → IsRun Digit s → is_in Digit (slice_index (s ++ rest) 0) ≡ true
digit_first [] rest r = absurd (omega (arith, r.0))
digit_first (b ∷ bs) rest r = (and_parts (is_in Digit b) (list_all (is_in Digit) bs) r.1).0

module _ (joined : Bool) (text s rest : Text) (l : IsLongest (IsRun Digit) text s) (split : text ≡ s ++ rest) where
  number_value : piece joined text ≡ (if goes_on rest then Err fault.Excluded else (if fits_from 0 s then Ok (token kind.Int (length s)) else Err fault.IntTooWide))
  number_value =
      by_plain_class joined text Digit (its_class Digit (slice_index text 0) (ap (λ t. is_in Digit (slice_index t 0)) split ∙ digit_first s rest l.spells)) (λ f. cc) (λ f. cc)
      ∙ number_is text
      ∙ ap (number_at text) (sym (longest_run_len Digit text s l))
      ∙ ap (λ (t : Text). if goes_on t then Err fault.Excluded else (if fits_from 0 (take (length s) text) then Ok (token kind.Int (length s)) else Err fault.IntTooWide)) (front_dropped s text (rest, split))
      ∙ ap (λ (t : Text). if goes_on rest then Err fault.Excluded else (if fits_from 0 t then Ok (token kind.Int (length s)) else Err fault.IntTooWide)) (front_taken s text (rest, split))

  pub int_read : goes_on rest ≡ false → value_of s ≤ max_int → piece joined text ≡ Ok (token kind.Int (length s))
  int_read e h = number_value ∙ rw (e, fits_small s h) refl

  pub other_number_read : goes_on rest ≡ true → piece joined text ≡ Err fault.Excluded
  other_number_read e = number_value ∙ rw e refl

  pub wide_number_read : goes_on rest ≡ false → max_int < value_of s → piece joined text ≡ Err fault.IntTooWide
  wide_number_read e h = number_value ∙ rw (e, fits_large s h) refl
