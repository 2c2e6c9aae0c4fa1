-- The terms that a shape is made of, one by one.
use Rattle.std.proofs.Common.{◌≡◌, ◌≢◌, ℕ, zero, suc, ◌+◌, ◌-◌, ◌<◌, List, [], ◌∷◌, ◌++◌, length, get_or, take, Option, Some, None, refl, sym, ◌∙◌, ap, arith, append_assoc}
use Rattle.type_terms.specs.declared.shape.Shape.{Shape}
use Rattle.type_terms.specs.declared.shape.Shape.TheVariants as shape
use Rattle.type_terms.specs.Terms.{terms_of, parts}
use Rattle.type_unify.specs.declared.pair.Pair.{Pair}
use Rattle.type_unify.specs.Heads.{zipped}
use Rattle.type_unify.specs.Matching.{Fields}

length-terms_of : (fields : Fields) → length (terms_of fields) ≡ length fields
length-terms_of [] = refl
length-terms_of (f ∷ fields) = ap suc (length-terms_of fields)

get_or-terms_of : (fields : Fields) (k : ℕ) (d : List ℕ × ℕ) → k < length fields → get_or (terms_of fields) k 0 ≡ (get_or fields k d).1
get_or-terms_of [] k d lt = absurd (omega arith)
get_or-terms_of (f ∷ fields) zero d lt = refl
get_or-terms_of (f ∷ fields) (suc k) d lt = get_or-terms_of fields k d (omega arith)

pub closed_count : (sh : Shape) (fields items : Fields) (rest : Option ℕ) → sh ≡ shape.Row fields rest → rest ≡ None → items ≡ fields → length items ≡ length (parts sh)
closed_count sh fields items rest e closed same =
    ap length same ∙ sym (length-terms_of fields) ∙ ap (λ x. length (parts x)) (sym (e ∙ ap (shape.Row fields) closed))

pub open_count : (sh : Shape) (fields items : Fields) (rest : Option ℕ) (next : ℕ) → sh ≡ shape.Row fields rest → rest ≡ Some next → items ≡ fields → length items + 1 ≡ length (parts sh)
open_count sh fields items rest next e has same =
    let a = ap length same in let b = length-terms_of fields in let c = ap (λ x. length (parts x)) (e ∙ ap (shape.Row fields) has) in omega (arith, a, b, c)

pub closed_part : (sh : Shape) (fields items : Fields) (rest : Option ℕ) (k : ℕ) (read : List ℕ × ℕ) → sh ≡ shape.Row fields rest → rest ≡ None → items ≡ fields →
    k < length (parts sh) → (get_or items k read).1 ≡ get_or (parts sh) k 0
closed_part sh fields items rest k read e closed same lt =
    let a = ap (λ x. parts x) (e ∙ ap (shape.Row fields) closed) in
    ap (λ fs. (get_or fs k read).1) same ∙ sym (get_or-terms_of fields k read (let b = closed_count sh fields items rest e closed same in let c = ap length same in omega (arith, b, c)))
    ∙ ap (λ ps. get_or ps k 0) (sym a)

pub open_part : (sh : Shape) (fields items : Fields) (rest : Option ℕ) (next k : ℕ) (read : List ℕ × ℕ) → sh ≡ shape.Row fields rest → rest ≡ Some next → items ≡ fields →
    k < length (parts sh) → k ≢ 0 → (get_or items (k - 1) read).1 ≡ get_or (parts sh) k 0
open_part sh fields items rest next zero read e has same lt ne = absurd (ne refl)
open_part sh fields items rest next (suc k) read e has same lt ne =
    let a = ap (λ x. parts x) (e ∙ ap (shape.Row fields) has) in
    let pred : suc k - 1 ≡ k = omega arith in
    ap (λ j. (get_or items j read).1) pred
    ∙ ap (λ fs. (get_or fs k read).1) same ∙ sym (get_or-terms_of fields k read (let b = open_count sh fields items rest next e has same in let c = ap length same in omega (arith, b, c)))
    ∙ ap (λ ps. get_or ps (suc k) 0) (sym a)

-- one more pair
zipped-take : (xs ys : List ℕ) (k : ℕ) → k < length xs → length xs ≡ length ys →
    zipped (take (suc k) xs) (take (suc k) ys) ≡ zipped (take k xs) (take k ys) ++ record { first = get_or xs k 0; second = get_or ys k 0 } ∷ []
zipped-take [] ys k lt e = absurd (omega arith)
zipped-take (x ∷ xs) [] k lt e = absurd (omega arith)
zipped-take (x ∷ xs) (y ∷ ys) zero lt e = refl
zipped-take (x ∷ xs) (y ∷ ys) (suc k) lt e = ap (λ ps. record { first = x; second = y } ∷ ps) (zipped-take xs ys k (omega arith) (omega arith))

pub zipped_step : (first now now' : List Pair) (xs ys : List ℕ) (k a b : ℕ) → k < length xs → length xs ≡ length ys →
    now ≡ first ++ zipped (take k xs) (take k ys) → a ≡ get_or xs k 0 → b ≡ get_or ys k 0 → now' ≡ now ++ record { first = a; second = b } ∷ [] →
    now' ≡ first ++ zipped (take (k + 1) xs) (take (k + 1) ys)
zipped_step first now now' xs ys k a b lt e h ea eb en =
    en ∙ ap (λ ps. ps ++ record { first = a; second = b } ∷ []) h ∙ append_assoc first (zipped (take k xs) (take k ys)) (record { first = a; second = b } ∷ [])
    ∙ ap (λ n. first ++ (zipped (take k xs) (take k ys) ++ record { first = n; second = b } ∷ [])) ea
    ∙ ap (λ n. first ++ (zipped (take k xs) (take k ys) ++ record { first = get_or xs k 0; second = n } ∷ [])) eb
    ∙ ap (λ ps. first ++ ps) (sym (zipped-take xs ys k lt e))
    ∙ ap (λ n. first ++ zipped (take n xs) (take n ys)) (let p : suc k ≡ k + 1 = omega arith in p)
