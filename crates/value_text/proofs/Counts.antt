-- Chars counted byte by byte.
use Rattle.std.proofs.Common.{◌≡◌, ℕ, zero, suc, ◌+◌, ◌<◌, ◌≤◌, List, [], ◌∷◌, ◌++◌, length, get_or, take, drop, take-append-drop, refl, sym, ap, ◌∙◌, arith}
use Rattle.std.specs.Str.{chars, chars_after, continuation_len, lead_bits}
use Rattle.std.proofs.lemmas.List.{take_more, take_all}
use Rattle.value_text.specs.Counting.{completed, open_after, one_where_none}

-- ---- one byte more

pub open-more : (n : ℕ) (bs : List ℕ) (b : ℕ) → open_after n (bs ++ b ∷ []) ≡ open_after (open_after n bs) (b ∷ [])
open-more n [] b = refl
open-more zero (c ∷ cs) b = open-more (continuation_len c) cs b
open-more (suc n) (c ∷ cs) b = open-more n cs b

-- a char that the byte completes
abbrev pub last_one : ℕ → ℕ
last_one zero = 1
last_one (suc n) = 0

one-add : (k a b : ℕ) → one_where_none k (a + b) ≡ one_where_none k a + b
one-add zero a b = omega arith
one-add (suc k) a b = refl

completed-one : (n b : ℕ) → completed n (b ∷ []) ≡ last_one (open_after n (b ∷ []))
completed-one zero b = go (continuation_len b)
  where
    go : (k : ℕ) → one_where_none k 0 ≡ last_one k
    go zero = refl
    go (suc k) = refl
completed-one (suc zero) b = refl
completed-one (suc (suc n)) b = refl

pub completed-more : (n : ℕ) (bs : List ℕ) (b : ℕ) → completed n (bs ++ b ∷ []) ≡ completed n bs + last_one (open_after n (bs ++ b ∷ []))
completed-more n [] b = omega (arith, completed-one n b)
completed-more zero (c ∷ cs) b =
    ap (one_where_none (continuation_len c)) (completed-more (continuation_len c) cs b)
    ∙ one-add (continuation_len c) (completed (continuation_len c) cs) (last_one (open_after (continuation_len c) (cs ++ b ∷ [])))
completed-more (suc n) (c ∷ cs) b =
    ap (one_where_none n) (completed-more n cs b) ∙ one-add n (completed n cs) (last_one (open_after n (cs ++ b ∷ [])))

-- ---- bytes and more bytes

pub open-append : (n : ℕ) (a b : List ℕ) → open_after n (a ++ b) ≡ open_after (open_after n a) b
open-append n [] b = refl
open-append zero (c ∷ cs) b = open-append (continuation_len c) cs b
open-append (suc n) (c ∷ cs) b = open-append n cs b

pub completed-append : (n : ℕ) (a b : List ℕ) → completed n (a ++ b) ≡ completed n a + completed (open_after n a) b
completed-append n [] b = omega arith
completed-append zero (c ∷ cs) b =
    ap (one_where_none (continuation_len c)) (completed-append (continuation_len c) cs b)
    ∙ one-add (continuation_len c) (completed (continuation_len c) cs) (completed (open_after (continuation_len c) cs) b)
completed-append (suc n) (c ∷ cs) b =
    ap (one_where_none n) (completed-append n cs b) ∙ one-add n (completed n cs) (completed (open_after n cs) b)

-- ---- as many as there are chars

after_char : (n c : ℕ) (bs : List ℕ) → length (chars_after n c bs) ≡ one_where_none n (completed n bs)
after_char zero c [] = refl
after_char zero c (b ∷ bs) = ap suc (after_char (continuation_len b) (lead_bits b) bs)
after_char (suc n) c [] = refl
after_char (suc n) c (b ∷ bs) = after_char n _ bs

pub counted : (bs : List ℕ) → completed 0 bs ≡ length (chars bs)
unfolding chars
counted [] = refl
counted (b ∷ bs) = sym (after_char (continuation_len b) (lead_bits b) bs)

-- ---- a loop over bytes

pub next_byte : (n : ℕ) (bs : List ℕ) (i o : ℕ) → i < length bs → o ≡ open_after (open_after n (take i bs)) (get_or bs i 0 ∷ [])
    → (open_after n (take (i + 1) bs) ≡ o) × (completed n (take (i + 1) bs) ≡ completed n (take i bs) + last_one o)
next_byte n bs i o l p =
    let b = get_or bs i 0 in
    let more : take (i + 1) bs ≡ take i bs ++ b ∷ [] = take_more bs i 0 l in
    let same : open_after n (take i bs ++ b ∷ []) ≡ o = open-more n (take i bs) b ∙ sym p in (
      ap (open_after n) more ∙ same,
      ap (completed n) more ∙ completed-more n (take i bs) b ∙ ap (λ (k : ℕ). completed n (take i bs) + last_one k) same,
    )

pub no_more_than : (n : ℕ) (bs : List ℕ) (i : ℕ) → completed n (take i bs) ≤ completed n bs
no_more_than n bs i =
    let whole = ap (completed n) (take-append-drop i bs) in
    omega (arith, completed-append n (take i bs) (drop i bs), whole)

-- a byte that completes a char for which there is no budget
pub spent_over : (n left before : ℕ) (bs : List ℕ) (i o : ℕ) → i < length bs → o ≡ open_after (open_after n (take i bs)) (get_or bs i 0 ∷ [])
    → o ≡ 0 → left + completed n (take i bs) ≡ before → left < 1 → before < completed n bs
spent_over n left before bs i o l p z q h =
    let next = next_byte n bs i o l p in
    let one : last_one o ≡ 1 = ap last_one z in
    omega (arith, next.1, one, no_more_than n bs (i + 1))

pub all_taken : (n : ℕ) (bs : List ℕ) (i : ℕ) → length bs ≤ i → take i bs ≡ bs
all_taken n bs i l = take_all i bs l

pub none_yet : (k o : ℕ) → (o ≡ 0 → ⊥) → last_one o ≡ 0
none_yet k zero h = absurd (h refl)
none_yet k (suc o) h = refl
