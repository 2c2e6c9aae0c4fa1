-- Codes and their bytes.
use Rattle.std.proofs.Common.{◌≡◌, ℕ, zero, suc, Bool, true, false, ◌&&◌, List, [], ◌∷◌, ◌++◌, map, replicate, refl, ap, arith}
use Rattle.std.specs.List.{flat_map}
use Rattle.std.specs.Char.{encode_utf8}
use Rattle.std.specs.Str.{chars, encode_utf8_all, all_scalars}
use Rattle.std.proofs.lemmas.Bool.{false≢true}
use Rattle.std.proofs.lemmas.List.{append-nil}
use Rattle.std.proofs.lemmas.Str.{encode_ascii, encodes-chars, IsUtf8-from_is_utf8}
use Rattle.elm_meaning.specs.Layout.{RowsHave, blanks, blank_rows}

pub encodes-blanks : (n : ℕ) → encode_utf8_all (blanks n) ≡ replicate n 32
encodes-blanks zero = refl
encodes-blanks (suc n) = rw (encode_ascii 32 (omega arith)) (ap (λ (r : List ℕ). 32 ∷ r) (encodes-blanks n))

pub encodes-one : (c : ℕ) → encode_utf8_all (c ∷ []) ≡ encode_utf8 c
encodes-one c = append-nil (encode_utf8 c)

pub blanks-scalars : (n : ℕ) → all_scalars (blanks n) ≡ true
blanks-scalars zero = refl
blanks-scalars (suc n) = blanks-scalars n

both : (a b : Bool) → (a && b) ≡ true → (a ≡ true) × (b ≡ true)
both true b h = (refl, h)
both false b h = absurd (false≢true h)

and_true : (a b : Bool) → a ≡ true → b ≡ true → (a && b) ≡ true
and_true true b h k = k
and_true false b h k = absurd (false≢true h)

-- the first code and the others
pub scalars-parts : (c : ℕ) (cs : List ℕ) → all_scalars (c ∷ cs) ≡ true → (all_scalars (c ∷ []) ≡ true) × (all_scalars cs ≡ true)
scalars-parts c cs h = let p = both _ (all_scalars cs) h in (and_true _ true p.0 refl, p.1)

pub scalars-cons : (c : ℕ) (cs : List ℕ) → all_scalars (c ∷ []) ≡ true → all_scalars cs ≡ true → all_scalars (c ∷ cs) ≡ true
scalars-cons c cs h k = and_true _ (all_scalars cs) (both _ true h).0 k

pub scalars-append : (a b : List ℕ) → all_scalars a ≡ true → all_scalars b ≡ true → all_scalars (a ++ b) ≡ true
scalars-append [] b h k = k
scalars-append (c ∷ cs) b h k =
    let p = scalars-parts c cs h in scalars-cons c (cs ++ b) p.0 (scalars-append cs b p.1 k)

-- rows that are texts are the bytes of their chars
pub encodes_rows : (width : ℕ) (rows : List (List ℕ)) → RowsHave width rows → map encode_utf8_all (map chars rows) ≡ rows
encodes_rows width [] h = refl
encodes_rows width (r ∷ rs) h =
    let first : encode_utf8_all (chars r) ≡ r = encodes-chars r (IsUtf8-from_is_utf8 r h.0) in
    let rest : map encode_utf8_all (map chars rs) ≡ rs = encodes_rows width rs h.2 in
    cc

pub encodes_blank_rows : (n width : ℕ) → map encode_utf8_all (blank_rows n width) ≡ replicate n (replicate width 32)
encodes_blank_rows zero width = refl
encodes_blank_rows (suc n) width =
    let first = encodes-blanks width in let rest = encodes_blank_rows n width in cc

-- the bytes of codes one by one
pub encodes-map : {X : Type 0} (f : X → ℕ) (xs : List X) → encode_utf8_all (map f xs) ≡ flat_map (λ x. encode_utf8 (f x)) xs
encodes-map f [] = refl
encodes-map f (x ∷ xs) = ap (λ (r : List ℕ). encode_utf8 (f x) ++ r) (encodes-map f xs)

pub map-same : {X Y : Type 0} (f g : X → Y) (xs : List X) → ((x : X) → f x ≡ g x) → map f xs ≡ map g xs
map-same f g [] h = refl
map-same f g (x ∷ xs) h = let first = h x in let rest = map-same f g xs h in cc

pub map-map : {X Y Z : Type 0} (f : Y → Z) (g : X → Y) (xs : List X) → map f (map g xs) ≡ map (λ x. f (g x)) xs
map-map f g [] = refl
map-map f g (x ∷ xs) = ap (λ r. f (g x) ∷ r) (map-map f g xs)
