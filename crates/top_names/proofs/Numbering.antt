-- Values numbered one after the other.
use Rattle.std.proofs.Common.{◌≡◌, ◌∙◌, ◌+◌, ◌<◌, ℕ, zero, suc, List, [], ◌∷◌, ◌++◌, map, take, length, get_or, refl, sym, ap, arith, add-one}
use Rattle.std.proofs.Math.Seq.{take-suc}
use Rattle.std.specs.List.{flat_map}
use Rattle.elm_base.specs.declared.token.At.{At}
use Rattle.elm_base.specs.declared.project.Group.{Group}
use Rattle.elm_base.specs.declared.tree.Module.{Module}
use Rattle.core_names.specs.declared.tops.TopName.{TopName}
use Rattle.top_names.specs.Names as spec

append_all : {A : Type 0} (xs ys zs : List A) → (xs ++ ys) ++ zs ≡ xs ++ (ys ++ zs)
append_all [] ys zs = refl
append_all (x ∷ xs) ys zs = ap (λ l. x ∷ l) (append_all xs ys zs)

append_none : {A : Type 0} (xs : List A) → xs ++ [] ≡ xs
append_none [] = refl
append_none (x ∷ xs) = ap (λ l. x ∷ l) (append_none xs)

length_both : {A : Type 0} (xs ys : List A) → length (xs ++ ys) ≡ length xs + length ys
length_both [] ys = omega (arith)
length_both (x ∷ xs) ys = ap suc (length_both xs ys) ∙ omega (arith)

length_values : (modules : List Module) (n : ℕ) (vs : List (List ℕ × At)) → length (spec.values_from modules n vs) ≡ length vs
length_values modules n [] = refl
length_values modules n (v ∷ vs) = ap suc (length_values modules (suc n) vs)

both_from : (modules : List Module) (n : ℕ) (vs ws : List (List ℕ × At)) → spec.values_from modules n (vs ++ ws) ≡ spec.values_from modules n vs ++ spec.values_from modules (n + length vs) ws
both_from modules n [] ws = ap (λ (k : ℕ). spec.values_from modules k ws) (omega (arith))
both_from modules n (v ∷ vs) ws =
    ap (λ l. spec.value_of modules n v ∷ l) (both_from modules (suc n) vs ws ∙ ap (λ (k : ℕ). spec.values_from modules (suc n) vs ++ spec.values_from modules k ws) (omega (arith)))

-- what is appended behind what was appended
pub behind : (modules : List Module) (start before after : List TopName) (vs ws : List (List ℕ × At)) → before ≡ start ++ spec.values_from modules (length start) vs →
    after ≡ before ++ spec.values_from modules (length before) ws → after ≡ start ++ spec.values_from modules (length start) (vs ++ ws)
behind modules start before after vs ws b a =
    a ∙ ap (λ l. l ++ spec.values_from modules (length l) ws) b
    ∙ ap (λ (k : ℕ). (start ++ spec.values_from modules (length start) vs) ++ spec.values_from modules k ws) (length_both start (spec.values_from modules (length start) vs) ∙ ap (λ (k : ℕ). length start + k) (length_values modules (length start) vs))
    ∙ append_all start (spec.values_from modules (length start) vs) (spec.values_from modules (length start + length vs) ws)
    ∙ ap (λ l. start ++ l) (sym (both_from modules (length start) vs ws))

take_more : {A : Type 0} (xs : List A) (i : ℕ) (x : A) → i < length xs → x ≡ get_or xs i x → take (i + 1) xs ≡ take i xs ++ x ∷ []
take_more xs i x lt is = ap (λ (k : ℕ). take k xs) (add-one i) ∙ take-suc xs i x lt ∙ ap (λ y. take i xs ++ y ∷ []) (sym is)

map_behind : {A B : Type 0} (f : A → B) (xs : List A) (x : A) → map f (xs ++ x ∷ []) ≡ map f xs ++ f x ∷ []
map_behind f [] x = refl
map_behind f (y ∷ xs) x = ap (λ l. f y ∷ l) (map_behind f xs x)

flat_behind : {A B : Type 0} (f : A → List B) (xs : List A) (x : A) → flat_map f (xs ++ x ∷ []) ≡ flat_map f xs ++ f x
flat_behind f [] x = append_none (f x)
flat_behind f (y ∷ xs) x = ap (λ l. f y ++ l) (flat_behind f xs x) ∙ sym (append_all (f y) (flat_map f xs) (f x))

pub member_turn : (modules : List Module) (f : At → List ℕ × At) (xs : List At) (i : ℕ) (x : At) (start before after : List TopName) → i < length xs → x ≡ get_or xs i x →
    before ≡ start ++ spec.values_from modules (length start) (map f (take i xs)) → after ≡ before ++ spec.value_of modules (length before) (f x) ∷ [] →
    after ≡ start ++ spec.values_from modules (length start) (map f (take (i + 1) xs))
member_turn modules f xs i x start before after lt is b a =
    behind modules start before after (map f (take i xs)) (f x ∷ []) b a
    ∙ ap (λ l. start ++ spec.values_from modules (length start) l) (sym (ap (map f) (take_more xs i x lt is) ∙ map_behind f (take i xs) x))

pub group_turn : (modules : List Module) (xs : List Group) (i : ℕ) (x : Group) (start before after : List TopName) → i < length xs → x ≡ get_or xs i x →
    before ≡ start ++ spec.values_from modules (length start) (spec.values_in (take i xs)) → after ≡ before ++ spec.values_from modules (length before) (spec.of_group x) →
    after ≡ start ++ spec.values_from modules (length start) (spec.values_in (take (i + 1) xs))
group_turn modules xs i x start before after lt is b a =
    behind modules start before after (spec.values_in (take i xs)) (spec.of_group x) b a
    ∙ ap (λ l. start ++ spec.values_from modules (length start) l) (sym (ap spec.values_in (take_more xs i x lt is) ∙ flat_behind spec.of_group (take i xs) x))

get_next : {A : Type 0} (i : ℕ) (xs : List A) (d e : A) → i < length xs → get_or xs i d ≡ get_or xs i e
get_next i [] d e h = absurd (omega (arith, h))
get_next zero (x ∷ xs) d e h = refl
get_next (suc i) (x ∷ xs) d e h = get_next i xs d e (omega (arith, h))

-- an item that is read is itself what stands there
pub get_again : {A : Type 0} (i : ℕ) (xs : List A) (d : A) → i < length xs → get_or xs i d ≡ get_or xs i (get_or xs i d)
get_again i xs d h = get_next i xs d (get_or xs i d) h
