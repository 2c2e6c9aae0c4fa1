-- Binders one behind the other.
use Rattle.std.proofs.Common.{◌≡◌, ◌+◌, ℕ, ◌<◌, List, [], ◌∷◌, ◌++◌, map, take, length, get_or, refl, sym, ap, ◌∙◌, add-one}
use Rattle.std.proofs.Math.Seq.{take-suc}
use Rattle.elm_base.specs.declared.token.At.{At}
use Rattle.plain_form.specs.Numbering.{Binders as Places, no_binders, both, all}

append_all : {A : Type 0} (xs ys zs : List A) → (xs ++ ys) ++ zs ≡ xs ++ (ys ++ zs)
append_all [] ys zs = refl
append_all (x ∷ xs) ys zs = ap (λ l. x ∷ l) (append_all xs ys zs)

append_none : {A : Type 0} (xs : List A) → xs ++ [] ≡ xs
append_none [] = refl
append_none (x ∷ xs) = ap (λ l. x ∷ l) (append_none xs)

abbrev pair : List At → List (At × ℕ) → Places
pair p x = record { places = p; own = x }

both_places : (p q : List At) (x y : List (At × ℕ)) → p ≡ q → x ≡ y → pair p x ≡ pair q y
both_places p q x y e f = ap (λ l. pair l x) e ∙ ap (pair q) f

pub both_all : (a b c : Places) → both (both a b) c ≡ both a (both b c)
both_all a b c = both_places _ _ _ _ (append_all a.places b.places c.places) (append_all a.own b.own c.own)

pub both_none : (a : Places) → both a no_binders ≡ a
both_none a = both_places _ _ _ _ (append_none a.places) (append_none a.own)

pub none_both : (a : Places) → both no_binders a ≡ a
none_both a = refl

pub all_append : (xs ys : List Places) → all (xs ++ ys) ≡ both (all xs) (all ys)
all_append [] ys = refl
all_append (x ∷ xs) ys = ap (both x) (all_append xs ys) ∙ sym (both_all x (all xs) (all ys))

take-more : {A : Type 0} (xs : List A) (i : ℕ) (d : A) → i < length xs → take (i + 1) xs ≡ take i xs ++ get_or xs i d ∷ []
take-more xs i d lt = ap (λ (k : ℕ). take k xs) (add-one i) ∙ take-suc xs i d lt

map-behind : {A B : Type 0} (f : A → B) (xs : List A) (x : A) → map f (xs ++ x ∷ []) ≡ map f xs ++ f x ∷ []
map-behind f [] x = refl
map-behind f (y ∷ xs) x = ap (λ l. f y ∷ l) (map-behind f xs x)

all-behind : (bs : List Places) (b : Places) → all (bs ++ b ∷ []) ≡ both (all bs) b
all-behind bs b = all_append bs (b ∷ []) ∙ ap (both (all bs)) (both_none b)

-- of the items so far and one more
more : {A : Type 0} (f : A → Places) (xs : List A) (i : ℕ) (d : A) → i < length xs → all (map f (take (i + 1) xs)) ≡ both (all (map f (take i xs))) (f (get_or xs i d))
more f xs i d lt =
    ap (λ l. all (map f l)) (take-more xs i d lt) ∙ ap all (map-behind f (take i xs) (get_or xs i d)) ∙ all-behind (map f (take i xs)) (f (get_or xs i d))

more_twice : {A B : Type 0} (g : B → Places) (f : A → B) (xs : List A) (i : ℕ) (d : A) → i < length xs →
    all (map g (map f (take (i + 1) xs))) ≡ both (all (map g (map f (take i xs)))) (g (f (get_or xs i d)))
more_twice g f xs i d lt =
    ap (λ l. all (map g (map f l))) (take-more xs i d lt)
    ∙ ap (λ l. all (map g l)) (map-behind f (take i xs) (get_or xs i d))
    ∙ ap all (map-behind g (map f (take i xs)) (f (get_or xs i d)))
    ∙ all-behind (map g (map f (take i xs))) (g (f (get_or xs i d)))

extended : (start before after so_far now all_of : Places) → before ≡ both start so_far → after ≡ both before now → all_of ≡ both so_far now → after ≡ both start all_of
extended start before after so_far now all_of b a w = a ∙ ap (λ p. both p now) b ∙ both_all start so_far now ∙ ap (both start) (sym w)

pub next : {A : Type 0} (f : A → Places) (xs : List A) (i : ℕ) (x : A) (start before after : Places) → i < length xs → x ≡ get_or xs i x →
    before ≡ both start (all (map f (take i xs))) → after ≡ both before (f x) → after ≡ both start (all (map f (take (i + 1) xs)))
next f xs i x start before after lt is b a =
    extended start before after (all (map f (take i xs))) (f x) (all (map f (take (i + 1) xs))) b a (more f xs i x lt ∙ ap (λ y. both (all (map f (take i xs))) (f y)) (sym is))

-- an item has two parts, one behind the other
pub next_two : {A B : Type 0} (g : B → Places) (f : A → B) (first second : Places) (xs : List A) (i : ℕ) (x : A) (start before middle after : Places) → i < length xs → x ≡ get_or xs i x →
    g (f x) ≡ both first second → before ≡ both start (all (map g (map f (take i xs)))) → middle ≡ both before first → after ≡ both middle second →
    after ≡ both start (all (map g (map f (take (i + 1) xs))))
next_two g f first second xs i x start before middle after lt is parts b m a =
    extended start before after (all (map g (map f (take i xs)))) (g (f x)) (all (map g (map f (take (i + 1) xs)))) b
    (a ∙ ap (λ p. both p second) m ∙ both_all before first second ∙ ap (both before) (sym parts))
    (more_twice g f xs i x lt ∙ ap (λ y. both (all (map g (map f (take i xs)))) (g (f y))) (sym is))
