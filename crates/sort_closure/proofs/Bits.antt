-- Bits of tables.
use Rattle.std.proofs.Common.{◌≡◌, ◌≢◌, ℕ, zero, suc, ◌+◌, ◌<◌, Bool, true, false, List, [], ◌∷◌, ◌⊎◌, inl, inr, length, length-set, get_or, get_or-set_other, get_or-set_same, set, map, replicate, refl, sym, ◌∙◌, ap, subst, arith}
use Rattle.std.specs.List.{range_with_len}
use Rattle.std.proofs.lemmas.Bool.{false≢true}
use Rattle.std.proofs.lemmas.List.{get_or_past}
use Rattle.std.proofs.lemmas.List.FromFn.{get_or-map-range_with_len, length-map-range_with_len}
use native.Mathlib.Decide.{ℕ_discrete, dec_lt}
use Rattle.bit_rows.specs.Bits.{bit_in}
use Rattle.bit_rows.specs.Table.{Table, row_of, bit_of, Includes, IsTransitive}
use Rattle.elm_typing.specs.Sorts.{Sort, Simple, Signal, IsAtMost}

-- one bit more --

pub record Sets (old new : Table) (row bit : ℕ) : Type 0 where
  pub width : new.bits ≡ old.bits
  pub rows : new.rows ≡ set old.rows row (set (row_of old row) bit true)

pub row-same : (old new : Table) (row bit : ℕ) → Sets old new row bit → row < length old.rows → row_of new row ≡ set (row_of old row) bit true
row-same old new row bit s lt =
    ap (λ (rows : List (List Bool)). get_or rows row []) s.rows ∙ get_or-set_same old.rows row (set (row_of old row) bit true) [] lt

pub row-other : (old new : Table) (row bit a : ℕ) → Sets old new row bit → a ≢ row → row_of new a ≡ row_of old a
row-other old new row bit a s ne =
    ap (λ (rows : List (List Bool)). get_or rows a []) s.rows ∙ get_or-set_other old.rows row a (set (row_of old row) bit true) [] ne

pub bit-same : (old new : Table) (row bit : ℕ) → Sets old new row bit → row < length old.rows → bit < length (row_of old row) → bit_of new row bit ≡ true
bit-same old new row bit s lt le =
    ap (λ (r : List Bool). bit_in r bit) (row-same old new row bit s lt) ∙ get_or-set_same (row_of old row) bit true false le

-- a bit of the new table is the one that was set, or was there
pub bit-came : (old new : Table) (row bit a b : ℕ) → Sets old new row bit → row < length old.rows → bit_of new a b ≡ true → ((a ≡ row) × (b ≡ bit)) ⊎ (bit_of old a b ≡ true)
bit-came old new row bit a b s lt h = elim (ℕ_discrete a row) as (λ _. ((a ≡ row) × (b ≡ bit)) ⊎ (bit_of old a b ≡ true)) [
  | no ne ↦ inr (sym (ap (λ (r : List Bool). bit_in r b) (row-other old new row bit a s ne)) ∙ h)
  | yes same ↦ elim (ℕ_discrete b bit) as (λ _. ((a ≡ row) × (b ≡ bit)) ⊎ (bit_of old a b ≡ true)) [
    | yes here ↦ inl (same, here)
    | no ne ↦ inr (
        ap (λ (k : ℕ). bit_of old k b) same
        ∙ sym (get_or-set_other (row_of old row) bit b true false ne)
        ∙ sym (ap (λ (r : List Bool). bit_in r b) (row-same old new row bit s lt))
        ∙ sym (ap (λ (k : ℕ). bit_of new k b) same) ∙ h)
  ]
]

-- and what was there stays
pub bit-kept : (old new : Table) (row bit a b : ℕ) → Sets old new row bit → row < length old.rows → bit < length (row_of old row) → bit_of old a b ≡ true → bit_of new a b ≡ true
bit-kept old new row bit a b s lt le h = elim (ℕ_discrete a row) as (λ _. bit_of new a b ≡ true) [
  | no ne ↦ ap (λ (r : List Bool). bit_in r b) (row-other old new row bit a s ne) ∙ h
  | yes same ↦ elim (ℕ_discrete b bit) as (λ _. bit_of new a b ≡ true) [
    | yes here ↦ ap (λ (k : ℕ). bit_of new k b) same ∙ ap (bit_of new row) here ∙ bit-same old new row bit s lt le
    | no ne ↦ ap (λ (k : ℕ). bit_of new k b) same
        ∙ ap (λ (r : List Bool). bit_in r b) (row-same old new row bit s lt)
        ∙ get_or-set_other (row_of old row) bit b true false ne
        ∙ ap (λ (k : ℕ). bit_of old k b) (sym same) ∙ h
  ]
]

-- no bit --

at-copies : {A : Type 0} (n : ℕ) (x d : A) (i : ℕ) → (get_or (replicate n x) i d ≡ x) ⊎ (get_or (replicate n x) i d ≡ d)
at-copies zero x d i = inr refl
at-copies (suc n) x d zero = inl refl
at-copies (suc n) x d (suc i) = at-copies n x d i

clear-row : (m b : ℕ) → bit_in (replicate m false) b ≡ false
clear-row m b = elim (at-copies m false false b) as (λ _. bit_in (replicate m false) b ≡ false) [ inl e ↦ e | inr e ↦ e ]

pub no-bit : (table : Table) (n m a b : ℕ) → table.rows ≡ replicate n (replicate m false) → bit_of table a b ≡ false
no-bit table n m a b e =
    ap (λ (rows : List (List Bool)). bit_in (get_or rows a []) b) e
    ∙ elim (at-copies n (replicate m false) [] a) as (λ _. bit_in (get_or (replicate n (replicate m false)) a []) b ≡ false) [
      | inl f ↦ ap (λ (r : List Bool). bit_in r b) f ∙ clear-row m b
      | inr f ↦ ap (λ (r : List Bool). bit_in r b) f
    ]

pub copies-at : {A : Type 0} (n : ℕ) (x d : A) (i : ℕ) → i < n → get_or (replicate n x) i d ≡ x
copies-at zero x d i lt = absurd (omega (arith, lt))
copies-at (suc n) x d zero lt = refl
copies-at (suc n) x d (suc i) lt = copies-at n x d i (omega (arith, lt))

-- the table of an order of sorts --

pub at_most : Sort → Sort → Bool
at_most Signal Simple = false
at_most Simple Simple = true
at_most Simple Signal = true
at_most Signal Signal = true

pub at_most-to : (a b : Sort) → IsAtMost a b → at_most a b ≡ true
unfolding at_most
at_most-to Simple Simple h = refl
at_most-to Simple Signal h = refl
at_most-to Signal Simple h = absurd h
at_most-to Signal Signal h = refl

pub at_most-back : (a b : Sort) → at_most a b ≡ true → IsAtMost a b
unfolding at_most
at_most-back Simple Simple h = tt
at_most-back Simple Signal h = tt
at_most-back Signal Simple h = absurd (false≢true h)
at_most-back Signal Signal h = tt

pub at_most-on : (a b c : Sort) → IsAtMost a b → IsAtMost b c → IsAtMost a c
at_most-on Simple b Simple h k = tt
at_most-on Simple b Signal h k = tt
at_most-on Signal Simple c h k = absurd h
at_most-on Signal Signal Simple h k = absurd k
at_most-on Signal Signal Signal h k = tt

abbrev pub sorts_row : ℕ → (ℕ → Sort) → ℕ → List Bool
sorts_row n f a = map (λ b. at_most (f a) (f b)) (range_with_len 0 n)

abbrev pub sorts_table : ℕ → (ℕ → Sort) → Table
sorts_table n f = record { bits = n; rows = map (sorts_row n f) (range_with_len 0 n) }

pub sorts-bit : (n : ℕ) (f : ℕ → Sort) (a b : ℕ) → a < n → b < n → bit_of (sorts_table n f) a b ≡ at_most (f a) (f b)
sorts-bit n f a b la lb =
    ap (λ (r : List Bool). bit_in r b) (get_or-map-range_with_len (sorts_row n f) 0 n a a [] la (omega arith))
    ∙ get_or-map-range_with_len (λ b. at_most (f a) (f b)) 0 n b b false lb (omega arith)

past : {A : Type 0} (xs : List A) (i : ℕ) (d : A) → (i < length xs → ⊥) → get_or xs i d ≡ d
past [] i d not = refl
past (x ∷ xs) zero d not = absurd (not (omega arith))
past (x ∷ xs) (suc i) d not = past xs i d (λ lt. not (omega (arith, lt)))

pub sorts-inside : (n : ℕ) (f : ℕ → Sort) (a b : ℕ) → bit_of (sorts_table n f) a b ≡ true → (a < n) × (b < n)
sorts-inside n f a b h = elim (dec_lt a n) as (λ _. (a < n) × (b < n)) [
  | no ge ↦ absurd (false≢true (sym (ap (λ (r : List Bool). bit_in r b)
      (past (map (sorts_row n f) (range_with_len 0 n)) a [] (λ lt. ge (omega (arith, lt, length-map-range_with_len (sorts_row n f) 0 n))))) ∙ h))
  | yes la ↦ elim (dec_lt b n) as (λ _. (a < n) × (b < n)) [
    | yes lb ↦ (la, lb)
    | no ge ↦ absurd (false≢true (
        sym (past (sorts_row n f a) b false (λ lt. ge (omega (arith, lt, length-map-range_with_len (λ b. at_most (f a) (f b)) 0 n))))
        ∙ sym (ap (λ (r : List Bool). bit_in r b) (get_or-map-range_with_len (sorts_row n f) 0 n a a [] la (omega arith))) ∙ h))
  ]
]

pub sorts-true : (n : ℕ) (f : ℕ → Sort) (a b : ℕ) → bit_of (sorts_table n f) a b ≡ true → IsAtMost (f a) (f b)
sorts-true n f a b h =
    let i = sorts-inside n f a b h in at_most-back (f a) (f b) (sym (sorts-bit n f a b i.0 i.1) ∙ h)

pub sorts-transitive : (n : ℕ) (f : ℕ → Sort) → IsTransitive (sorts_table n f)
sorts-transitive n f a b c h k =
    let i = sorts-inside n f a b h in
    let j = sorts-inside n f b c k in
    sorts-bit n f a c i.0 j.1 ∙ at_most-to (f a) (f c) (at_most-on (f a) (f b) (f c) (sorts-true n f a b h) (sorts-true n f b c k))
