-- Lists that are told one by one.
use Rattle.std.proofs.Common.{◌≡◌, ◌<◌, ◌+◌, ℕ, All, zero, suc, List, [], ◌∷◌, ◌++◌, map, take, length, get_or, refl, sym, ◌∙◌, ap, subst, arith}
use Rattle.std.proofs.lemmas.List.{map_more}
use Rattle.std.proofs.lemmas.List.Elements.{All-append}
use Rattle.session_file.specs.Sessions.{Each}

-- where one item is told of nothing, so is the list
pub refused_at : {X A B : Type 0} (Is : A → B → Type 0) (f : X → A) (xs : List X) (at : ℕ) (x : X) → at < length xs → x ≡ get_or xs at x
    → ((b : B) → Is (f x) b → ⊥) → (bs : List B) → Each Is (map f xs) bs → ⊥
refused_at Is f [] at x h is never bs e = absurd (omega (arith, h))
refused_at Is f (y ∷ xs) at x h is never [] e = e
refused_at Is f (y ∷ xs) zero x h is never (b ∷ bs) e = never b (subst (λ z. Is (f z) b) (sym is) e.0)
refused_at Is f (y ∷ xs) (suc n) x h is never (b ∷ bs) e = refused_at Is f xs n x (omega (arith, h)) is never bs e.1

behind : {A B : Type 0} (Is : A → B → Type 0) (ds : List A) (bs : List B) (a : A) (b : B) → Each Is ds bs → Is a b → Each Is (ds ++ a ∷ []) (bs ++ b ∷ [])
behind Is [] [] a b e is = (is, tt)
behind Is [] (c ∷ bs) a b e is = absurd e
behind Is (c ∷ ds) [] a b e is = absurd e
behind Is (c ∷ ds) (d ∷ bs) a b e is = (e.0, behind Is ds bs a b e.1 is)

-- one item more
pub one_more : {X A B : Type 0} (Is : A → B → Type 0) (f : X → A) (xs : List X) (at : ℕ) (x : X) → at < length xs → x ≡ get_or xs at x
    → (bs new : List B) (b : B) → Each Is (map f (take at xs)) bs → Is (f x) b → new ≡ bs ++ b ∷ [] → Each Is (map f (take (at + 1) xs)) new
one_more {B} Is f xs at x h there bs new b e is pushed =
    subst (λ (all : List B). Each Is (map f (take (at + 1) xs)) all) (sym pushed)
    (subst (λ ds. Each Is ds (bs ++ b ∷ [])) (sym (map_more f xs at x h))
    (behind Is (map f (take at xs)) bs (f (get_or xs at x)) b e (subst (λ z. Is (f z) b) there is)))

-- what is told by one thing each is one list
pub one_list : {A B : Type 0} (Is : A → B → Type 0) (one : (a : A) (b c : B) → Is a b → Is a c → b ≡ c) (ds : List A) (bs cs : List B) → Each Is ds bs → Each Is ds cs → bs ≡ cs
one_list Is one [] [] [] e h = refl
one_list Is one [] [] (c ∷ cs) e h = absurd h
one_list Is one [] (b ∷ bs) cs e h = absurd e
one_list Is one (a ∷ ds) [] cs e h = absurd e
one_list Is one (a ∷ ds) (b ∷ bs) [] e h = absurd h
one_list Is one (a ∷ ds) (b ∷ bs) (c ∷ cs) e h = ap (λ x. x ∷ bs) (one a b c e.0 h.0) ∙ ap (λ xs. c ∷ xs) (one_list Is one ds bs cs e.1 h.1)

one_all : {A : Type 0} (P : A → Type 0) (x : A) → P x → All P (x ∷ [])
one_all P x is zero d h = is
one_all P x is (suc k) d h = absurd (omega (arith, h))

-- what holds of each item holds of one more
pub all_more : {A : Type 0} (P : A → Type 0) (xs new : List A) (x : A) → All P xs → P x → new ≡ xs ++ x ∷ [] → All P new
all_more P xs new x all is pushed = subst (All P) (sym pushed) (All-append P xs (x ∷ []) all (one_all P x is))
