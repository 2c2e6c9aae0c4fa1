-- What is left of a list, and the first annotation in it.
use Rattle.std.proofs.Common.{◌≡◌, ◌<◌, ◌+◌, ℕ, zero, suc, Option, List, [], ◌∷◌, map, drop, length, get_or, refl, sym, ap, ◌∙◌, arith, add-one}
use Rattle.typing_rules.specs.WrittenTypes.{Written}
use Rattle.plain_form.specs.PlainForm.{Defined, annotation_of}

drop_next : {A : Type 0} (i : ℕ) (xs : List A) (x : A) → i < length xs → x ≡ get_or xs i x → drop i xs ≡ x ∷ drop (suc i) xs
drop_next zero [] x h is = absurd (omega (arith, h))
drop_next zero (y ∷ xs) x h is = ap (λ z. z ∷ xs) (sym is)
drop_next (suc i) [] x h is = absurd (omega (arith, h))
drop_next (suc i) (y ∷ xs) x h is = drop_next i xs x (omega (arith, h)) is

pub drop_item : {A : Type 0} (i : ℕ) (xs : List A) (x : A) → i < length xs → x ≡ get_or xs i x → drop i xs ≡ x ∷ drop (i + 1) xs
drop_item i xs x h is = drop_next i xs x h is ∙ ap (λ (k : ℕ). x ∷ drop k xs) (sym (add-one i))

pub annotation_turn : {A : Type 0} (f : A → Defined) (xs : List A) (i : ℕ) (x : A) (name : List ℕ) (all : Option Written) → i < length xs → x ≡ get_or xs i x →
    ((others : List Defined) → annotation_of name (f x ∷ others) ≡ annotation_of name others) → annotation_of name (map f (drop i xs)) ≡ all → annotation_of name (map f (drop (i + 1) xs)) ≡ all
annotation_turn f xs i x name all lt is passes here =
    sym (passes (map f (drop (i + 1) xs))) ∙ sym (ap (λ l. annotation_of name (map f l)) (drop_item i xs x lt is)) ∙ here

get_next : {A : Type 0} (i : ℕ) (xs : List A) (d e : A) → i < length xs → get_or xs i d ≡ get_or xs i e
get_next i [] d e h = absurd (omega (arith, h))
get_next zero (x ∷ xs) d e h = refl
get_next (suc i) (x ∷ xs) d e h = get_next i xs d e (omega (arith, h))

pub get_again : {A : Type 0} (i : ℕ) (xs : List A) (d : A) → i < length xs → get_or xs i d ≡ get_or xs i (get_or xs i d)
get_again i [] d h = absurd (omega (arith, h))
get_again zero (x ∷ xs) d h = refl
get_again (suc i) (x ∷ xs) d h = get_next i xs d (get_or xs i d) (omega (arith, h))
