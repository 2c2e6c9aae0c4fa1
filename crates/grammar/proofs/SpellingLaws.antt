-- Laws of the spellings of literals.
use Rattle.std.proofs.Common.{◌≡◌, ℕ, ◌+◌, ◌*◌, ◌-◌, ◌<◌, ◌≤◌, List, [], ◌∷◌, ◌++◌, length, get_or, drop, drop-cons, add-one, append_assoc, Option, Some, None, refl, sym, ap, arith, ⊎_elim}
use Rattle.std.specs.Str.{IsUtf8, is_utf8}
use Rattle.std.proofs.lemmas.Str.{IsUtf8-from_is_utf8, is_utf8-from_IsUtf8, chars_past_char, chars-nil, IsUtf8-past_char}
use Rattle.std.specs.Char.{encode_utf8}
use Rattle.grammar.specs.Spelling.{number_after, behind, before, one_char}
use Rattle.grammar.proofs.Laws.{true_or_false}

-- ---- numbers

-- more digits make no smaller number
pub number_after-le : (n : ℕ) (cs : List ℕ) → n ≤ number_after n cs
number_after-le n [] = omega arith
number_after-le n (c ∷ cs) = let more = number_after-le (n * 10 + (c - 48)) cs in omega arith

pub number_turn : (text : List ℕ) (i n digit : ℕ) → i < length text → get_or text i 0 ≡ digit
    → number_after n (drop i text) ≡ number_after (n * 10 + (digit - 48)) (drop (i + 1) text)
number_turn text i n digit h e = rw (drop-cons text i 0, add-one, e) refl

-- ---- chars

pub no_char : (bytes : List ℕ) → (IsUtf8 bytes → ⊥) → None ≡ one_char bytes
no_char bytes h = ⊎_elim (λ e. absurd (h (IsUtf8-from_is_utf8 bytes e))) (λ e. rw e refl) (true_or_false (is_utf8 bytes))

pub char_of_one : (bytes rest : List ℕ) (c : ℕ) → IsUtf8 bytes → bytes ≡ encode_utf8 c ++ rest → length rest ≡ 0 → Some c ≡ one_char bytes
char_of_one bytes [] c u e h = rw (is_utf8-from_IsUtf8 bytes u, chars_past_char bytes [] c u e, chars-nil) refl
char_of_one bytes (d ∷ rest) c u e h = absurd (omega arith)

pub char_of_more : (bytes rest rest' : List ℕ) (c d : ℕ) → IsUtf8 bytes → bytes ≡ encode_utf8 c ++ rest → rest ≡ encode_utf8 d ++ rest' → None ≡ one_char bytes
char_of_more bytes rest rest' c d u e e' =
    rw (is_utf8-from_IsUtf8 bytes u, chars_past_char bytes rest c u e, chars_past_char rest rest' d (IsUtf8-past_char bytes rest c u e) e') refl

-- ---- escapes

pub behind_one : (front : List ℕ) (c : ℕ) (r : Option (List ℕ)) → behind front (before (Some c) r) ≡ behind (front ++ c ∷ []) r
behind_one front c (Some cs) = ap (λ z. Some z) (sym (append_assoc front (c ∷ []) cs))
behind_one front c None = refl

pub behind_none : (r : Option (List ℕ)) → r ≡ behind [] r
behind_none (Some cs) = refl
behind_none None = refl
