-- Terms that are laid out one behind the other: parts in turn, and a term behind its parts.
use Rattle.std.proofs.Common.{◌≡◌, ℕ, zero, suc, ◌+◌, ◌≤◌, ◌<◌, ◌==◌, Bool, true, false, ◌⊎◌, inl, inr, if◌then◌else◌, Some, List, [], ◌∷◌, ◌++◌, length, map, refl, sym, ap, ◌∙◌, subst, arith, length-append}
use Rattle.std.proofs.lemmas.Bool.{eqb-true}
use Rattle.std.specs.Prelude.{slice_get}
use Rattle.elm_base.specs.declared.term.Term.{Term}
use Rattle.elm_meaning.specs.Values.{Tree}
use Rattle.elm_meaning.specs.Terms.{tree_at, tree_of, trees_after, trees_of}
use Rattle.elm_meaning.specs.Lowered.{AllBelow, places_of, places_of_all, times}
use Rattle.code_lower.specs.Laying.{AllFrom, Lowers}

-- ---- lists

append_all : {A : Type 0} (xs ys zs : List A) → (xs ++ ys) ++ zs ≡ xs ++ (ys ++ zs)
append_all [] ys zs = refl
append_all (x ∷ xs) ys zs = ap (λ l. x ∷ l) (append_all xs ys zs)

append_none : {A : Type 0} (xs : List A) → xs ++ [] ≡ xs
append_none [] = refl
append_none (x ∷ xs) = ap (λ l. x ∷ l) (append_none xs)

map_append : {A B : Type 0} (f : A → B) (xs ys : List A) → map f (xs ++ ys) ≡ map f xs ++ map f ys
map_append f [] ys = refl
map_append f (x ∷ xs) ys = ap (λ l. f x ∷ l) (map_append f xs ys)

both_ends : {A : Type 0} (a b x y : List A) → a ≡ b → x ≡ y → a ++ x ≡ b ++ y
both_ends a b x y p q = ap (λ l. l ++ x) p ∙ ap (λ l. b ++ l) q

named_append : (xs ys : List Term) → places_of_all (xs ++ ys) ≡ places_of_all xs ++ places_of_all ys
named_append [] ys = refl
named_append (x ∷ xs) ys = ap (λ l. places_of x ++ l) (named_append xs ys) ∙ sym (append_all (places_of x) (places_of_all xs) (places_of_all ys))

pub times_append : (p : ℕ) (xs ys : List ℕ) → times p (xs ++ ys) ≡ times p xs + times p ys
times_append p [] ys = omega arith
times_append p (x ∷ xs) ys = let rest = times_append p xs ys in omega arith

pub below_front : (n : ℕ) (ps qs : List ℕ) → AllBelow n (ps ++ qs) → AllBelow n ps
below_front n [] qs h = tt
below_front n (p ∷ ps) qs h = (h.0, below_front n ps qs h.1)

below_back : (n : ℕ) (ps qs : List ℕ) → AllBelow n (ps ++ qs) → AllBelow n qs
below_back n [] qs h = h
below_back n (p ∷ ps) qs h = below_back n ps qs h.1

below_both : (n : ℕ) (ps qs : List ℕ) → AllBelow n ps → AllBelow n qs → AllBelow n (ps ++ qs)
below_both n [] qs f g = g
below_both n (p ∷ ps) qs f g = (f.0, below_both n ps qs f.1 g)

below_more : (n m : ℕ) (ps : List ℕ) → n ≤ m → AllBelow n ps → AllBelow m ps
below_more n m [] le h = tt
below_more n m (p ∷ ps) le h = (omega (arith, le, h.0), below_more n m ps le h.1)

from_front : (n : ℕ) (ps qs : List ℕ) → AllFrom n (ps ++ qs) → AllFrom n ps
from_front n [] qs h = tt
from_front n (p ∷ ps) qs h = (h.0, from_front n ps qs h.1)

from_back : (n : ℕ) (ps qs : List ℕ) → AllFrom n (ps ++ qs) → AllFrom n qs
from_back n [] qs h = h
from_back n (p ∷ ps) qs h = from_back n ps qs h.1

from_both : (n : ℕ) (ps qs : List ℕ) → AllFrom n ps → AllFrom n qs → AllFrom n (ps ++ qs)
from_both n [] qs f g = g
from_both n (p ∷ ps) qs f g = (f.0, from_both n ps qs f.1 g)

from_less : (n m : ℕ) (ps : List ℕ) → n ≤ m → AllFrom m ps → AllFrom n ps
from_less n m [] le h = tt
from_less n m (p ∷ ps) le h = (omega (arith, le, h.0), from_less n m ps le h.1)

-- what stands elsewhere isn't counted

abbrev one_if : Bool → ℕ
one_if b = if b then 1 else 0

unlike : (b : Bool) (p q : ℕ) → (p == q) ≡ b → (p ≡ q → ⊥) → one_if (p == q) ≡ 0
unlike true p q e f = absurd (f (eqb-true p q e))
unlike false p q e f = ap one_if e

none_below : (p n : ℕ) (ps : List ℕ) → n ≤ p → AllBelow n ps → times p ps ≡ 0
none_below p n [] le h = refl
none_below p n (q ∷ ps) le h =
    let here : one_if (q == p) ≡ 0 = unlike (q == p) q p refl (λ e. omega (arith, le, h.0, e)) in
    let rest = none_below p n ps le h.1 in
    omega (arith, here, rest)

none_from : (p n : ℕ) (ps : List ℕ) → p < n → AllFrom n ps → times p ps ≡ 0
none_from p n [] lt h = refl
none_from p n (q ∷ ps) lt h =
    let here : one_if (q == p) ≡ 0 = unlike (q == p) q p refl (λ e. omega (arith, lt, h.0, e)) in
    let rest = none_from p n ps lt h.1 in
    omega (arith, here, rest)

low_or_high : (p n : ℕ) → (p < n) ⊎ (n ≤ p)
low_or_high p zero = inr (omega arith)
low_or_high zero (suc n) = inl (omega arith)
low_or_high (suc p) (suc n) = elim (low_or_high p n) as (λ _. (suc p < suc n) ⊎ (suc n ≤ suc p)) [
  | inl lt ↦ inl (omega (arith, lt))
  | inr le ↦ inr (omega (arith, le))
]

-- ---- trees from the left

get_front : (ts us : List Tree) (i : ℕ) → i < length ts → tree_at (ts ++ us) i ≡ tree_at ts i
get_front [] us i h = absurd (omega (arith, h))
get_front (t ∷ ts) us zero h = refl
get_front (t ∷ ts) us (suc i) h = get_front ts us i (omega (arith, h))

get_seam : (ts : List Tree) (t : Tree) (us : List Tree) → tree_at (ts ++ t ∷ us) (length ts) ≡ t
get_seam [] t us = refl
get_seam (s ∷ ts) t us = get_seam ts t us

after_both : (ts : List Tree) (terms more : List Term) → trees_after ts (terms ++ more) ≡ trees_after (trees_after ts terms) more
after_both ts [] more = refl
after_both ts (t ∷ terms) more = after_both (ts ++ tree_of ts t ∷ []) terms more

length_after : (ts : List Tree) (terms : List Term) → length (trees_after ts terms) ≡ length ts + length terms
length_after ts [] = omega arith
length_after ts (t ∷ terms) = length_after (ts ++ tree_of ts t ∷ []) terms ∙ omega (arith, length-append ts (tree_of ts t ∷ []))

kept_after : (ts : List Tree) (terms : List Term) (i : ℕ) → i < length ts → tree_at (trees_after ts terms) i ≡ tree_at ts i
kept_after ts [] i h = refl
kept_after ts (t ∷ terms) i h =
    kept_after (ts ++ tree_of ts t ∷ []) terms i (omega (arith, h, length-append ts (tree_of ts t ∷ []))) ∙ get_front ts (tree_of ts t ∷ []) i h

trees_count : (terms : List Term) → length (trees_of terms) ≡ length terms
trees_count terms = length_after [] terms ∙ omega arith

stays : (terms more : List Term) (i : ℕ) → i < length terms → tree_at (trees_of (terms ++ more)) i ≡ tree_at (trees_of terms) i
stays terms more i h =
    ap (λ ts. tree_at ts i) (after_both [] terms more) ∙ kept_after (trees_of terms) more i (omega (arith, h, trees_count terms))

stay_all : (terms more : List Term) (ps : List ℕ) → AllBelow (length terms) ps → map (tree_at (trees_of (terms ++ more))) ps ≡ map (tree_at (trees_of terms)) ps
stay_all terms more [] h = refl
stay_all terms more (p ∷ ps) h =
    ap (λ t. t ∷ map (tree_at (trees_of (terms ++ more))) ps) (stays terms more p h.0) ∙ ap (λ l. tree_at (trees_of terms) p ∷ l) (stay_all terms more ps h.1)

last_tree : (terms : List Term) (t : Term) → tree_at (trees_of (terms ++ t ∷ [])) (length terms) ≡ tree_of (trees_of terms) t
last_tree terms t =
    ap (λ ts. tree_at ts (length terms)) (after_both [] terms (t ∷ []))
    ∙ ap (tree_at (trees_of terms ++ tree_of (trees_of terms) t ∷ [])) (sym (trees_count terms))
    ∙ get_seam (trees_of terms) (tree_of (trees_of terms) t) []

-- ---- terms behind terms

get_before : (xs ys : List Term) (i : ℕ) (t : Term) → i < length xs → slice_get (xs ++ ys) i ≡ Some t → slice_get xs i ≡ Some t
get_before [] ys i t h e = absurd (omega (arith, h))
get_before (x ∷ xs) ys zero t h e = e
get_before (x ∷ xs) ys (suc i) t h e = get_before xs ys i t (omega (arith, h)) e

get_behind : (xs ys : List Term) (i : ℕ) (t : Term) → length xs ≤ i → slice_get (xs ++ ys) i ≡ Some t → (k : ℕ) × (i ≡ length xs + k) × (slice_get ys k ≡ Some t)
get_behind [] ys i t h e = (i, omega arith, e)
get_behind (x ∷ xs) ys zero t h e = absurd (omega (arith, h))
get_behind (x ∷ xs) ys (suc i) t h e = let r = get_behind xs ys i t (omega (arith, h)) e in (r.0, omega (arith, r.1), r.2)

pub nothing_yet : (a : List Term) → Lowers a a [] []
nothing_yet a = record {
  added = [];
  grown = sym (append_none a);
  lower = λ at t e. absurd cc;
  from = tt;
  below = tt;
  once = λ place. omega arith;
  are = refl;
}

abbrev Order : List Term → List Term → Type 0
Order a added = (at : ℕ) (t : Term) → slice_get added at ≡ Some t → AllBelow (length a + at) (places_of t)

orders_join : (a b xs ys : List Term) → b ≡ a ++ xs → Order a xs → Order b ys → Order a (xs ++ ys)
orders_join a b xs ys grown f g at t e = elim (low_or_high at (length xs)) as (λ _. AllBelow (length a + at) (places_of t)) [
  | inl lt ↦ f at t (get_before xs ys at t lt e)
  | inr le ↦
      (let r = get_behind xs ys at t le e in
      let size : length b ≡ length a + length xs = ap length grown ∙ length-append a xs in
      let same : length b + r.0 ≡ length a + at = omega (arith, size, r.1) in
      subst (λ (n : ℕ). AllBelow n (places_of t)) same (g r.0 t r.2))
]

-- what two steps name, in another order
named_join : (p : ℕ) (ps qs : List ℕ) (xs ys : List Term) →
    times p ((ps ++ qs) ++ places_of_all (xs ++ ys)) ≡ times p (ps ++ places_of_all xs) + times p (qs ++ places_of_all ys)
named_join p ps qs xs ys =
    let whole = times_append p (ps ++ qs) (places_of_all (xs ++ ys)) in
    let front = times_append p ps qs in
    let back : times p (places_of_all (xs ++ ys)) ≡ times p (places_of_all xs) + times p (places_of_all ys) =
    ap (times p) (named_append xs ys) ∙ times_append p (places_of_all xs) (places_of_all ys) in
    let first = times_append p ps (places_of_all xs) in
    let second = times_append p qs (places_of_all ys) in
    omega (arith, whole, front, back, first, second)

from_join : (n : ℕ) (ps qs : List ℕ) (xs ys : List Term) → AllFrom n (ps ++ places_of_all xs) → AllFrom n (qs ++ places_of_all ys) → AllFrom n ((ps ++ qs) ++ places_of_all (xs ++ ys))
from_join n ps qs xs ys f g =
    from_both n (ps ++ qs) (places_of_all (xs ++ ys)) (from_both n ps qs (from_front n ps (places_of_all xs) f) (from_front n qs (places_of_all ys) g))
    (subst (AllFrom n) (sym (named_append xs ys)) (from_both n (places_of_all xs) (places_of_all ys) (from_back n ps (places_of_all xs) f) (from_back n qs (places_of_all ys) g)))

below_join : (n : ℕ) (ps qs : List ℕ) (xs ys : List Term) → AllBelow n (ps ++ places_of_all xs) → AllBelow n (qs ++ places_of_all ys) → AllBelow n ((ps ++ qs) ++ places_of_all (xs ++ ys))
below_join n ps qs xs ys f g =
    below_both n (ps ++ qs) (places_of_all (xs ++ ys)) (below_both n ps qs (below_front n ps (places_of_all xs) f) (below_front n qs (places_of_all ys) g))
    (subst (AllBelow n) (sym (named_append xs ys)) (below_both n (places_of_all xs) (places_of_all ys) (below_back n ps (places_of_all xs) f) (below_back n qs (places_of_all ys) g)))

pub joins : (a b c : List Term) (ps qs : List ℕ) (ts us : List Tree) → Lowers a b ps ts → Lowers b c qs us → Lowers a c (ps ++ qs) (ts ++ us)
joins a b c ps qs ts us f g =
    let size : length b ≡ length a + length f.added = ap length f.grown ∙ length-append a f.added in
    let whole : length c ≡ length b + length g.added = ap length g.grown ∙ length-append b g.added in
    record {
      added = f.added ++ g.added;
      grown = g.grown ∙ ap (λ l. l ++ g.added) f.grown ∙ append_all a f.added g.added;
      lower = orders_join a b f.added g.added f.grown f.lower g.lower;
      from = from_join (length a) ps qs f.added g.added f.from (from_less (length a) (length b) (qs ++ places_of_all g.added) (omega (arith, size)) g.from);
      below = below_join (length c) ps qs f.added g.added (below_more (length b) (length c) (ps ++ places_of_all f.added) (omega (arith, whole)) f.below) g.below;
      once = λ place. elim (low_or_high place (length b)) as (λ _. times place ((ps ++ qs) ++ places_of_all (f.added ++ g.added)) ≤ 1) [
        | inl lt ↦ omega (arith, named_join place ps qs f.added g.added, f.once place, none_from place (length b) (qs ++ places_of_all g.added) lt g.from)
        | inr le ↦ omega (arith, named_join place ps qs f.added g.added, g.once place, none_below place (length b) (ps ++ places_of_all f.added) le f.below)
      ];
      are =
          ap (λ (terms : List Term). map (tree_at (trees_of terms)) (ps ++ qs)) g.grown
          ∙ map_append (tree_at (trees_of (b ++ g.added))) ps qs
          ∙ both_ends (map (tree_at (trees_of (b ++ g.added))) ps) ts (map (tree_at (trees_of (b ++ g.added))) qs) us
          (stay_all b g.added ps (below_front (length b) ps (places_of_all f.added) f.below) ∙ f.are)
          (ap (λ (terms : List Term). map (tree_at (trees_of terms)) qs) (sym g.grown) ∙ g.are);
    }

-- ---- a term behind its parts

one_more : (xs : List Term) (t : Term) (at : ℕ) (u : Term) → length xs ≤ at → slice_get (xs ++ t ∷ []) at ≡ Some u → (at ≡ length xs) × (u ≡ t)
one_more xs t at u le e =
    let r = get_behind xs (t ∷ []) at u le e in
    last_only r.0 r.1 r.2
  where
    last_only : (k : ℕ) → at ≡ length xs + k → slice_get (t ∷ []) k ≡ Some u → (at ≡ length xs) × (u ≡ t)
    last_only zero is g = (omega (arith, is), cc)
    last_only (suc k) is g = absurd cc

closing_order : (a xs : List Term) (t : Term) → Order a xs → AllBelow (length a + length xs) (places_of t) → Order a (xs ++ t ∷ [])
closing_order a xs t f h at u e = elim (low_or_high at (length xs)) as (λ _. AllBelow (length a + at) (places_of u)) [
  | inl lt ↦ f at u (get_before xs (t ∷ []) at u lt e)
  | inr le ↦
      (let r = one_more xs t at u le e in
      let same : length a + length xs ≡ length a + at = omega (arith, r.0) in
      subst (λ (n : ℕ). AllBelow n (places_of u)) same (subst (λ (x : Term). AllBelow (length a + length xs) (places_of x)) (sym r.1) h))
]

named_once : (xs : List Term) (t : Term) → places_of_all (xs ++ t ∷ []) ≡ places_of_all xs ++ places_of t
named_once xs t = named_append xs (t ∷ []) ∙ ap (λ l. places_of_all xs ++ l) (append_none (places_of t))

pub closes : (a b new : List Term) (ps : List ℕ) (ts : List Tree) (t : Term) (at : ℕ) (u : Tree) → at ≡ length b → new ≡ b ++ t ∷ [] →
    places_of t ≡ ps → tree_of (trees_of b) t ≡ u → Lowers a b ps ts → Lowers a new (at ∷ []) (u ∷ [])
closes a b new ps ts t at u place grown parts is f =
    let size : length b ≡ length a + length f.added = ap length f.grown ∙ length-append a f.added in
    let whole : length new ≡ length b + 1 = ap length grown ∙ length-append b (t ∷ []) in
    let mine : AllBelow (length b) (places_of t) = subst (AllBelow (length b)) (sym parts) (below_front (length b) ps (places_of_all f.added) f.below) in
    let named : places_of_all (f.added ++ t ∷ []) ≡ places_of_all f.added ++ ps = named_once f.added t ∙ ap (λ l. places_of_all f.added ++ l) parts in
    record {
      added = f.added ++ t ∷ [];
      grown = grown ∙ ap (λ l. l ++ t ∷ []) f.grown ∙ append_all a f.added (t ∷ []);
      lower = closing_order a f.added t f.lower (subst (λ (n : ℕ). AllBelow n (places_of t)) size mine);
      from = (
        omega (arith, place, size),
        subst (AllFrom (length a)) (sym named)
            (from_both (length a) (places_of_all f.added) ps (from_back (length a) ps (places_of_all f.added) f.from) (from_front (length a) ps (places_of_all f.added) f.from)),
      );
      below = (
        omega (arith, place, whole),
        below_more (length b) (length new) (places_of_all (f.added ++ t ∷ [])) (omega (arith, whole))
            (subst (AllBelow (length b)) (sym named)
            (below_both (length b) (places_of_all f.added) ps (below_back (length b) ps (places_of_all f.added) f.below) (below_front (length b) ps (places_of_all f.added) f.below))),
      );
      once = λ p. counted p named;
      are = ap (λ e. e ∷ []) (ap (λ (terms : List Term). tree_at (trees_of terms) at) grown ∙ ap (tree_at (trees_of (b ++ t ∷ []))) place ∙ last_tree b t ∙ is);
    }
  where
    counted : (p : ℕ) → places_of_all (f.added ++ t ∷ []) ≡ places_of_all f.added ++ ps → times p (at ∷ places_of_all (f.added ++ t ∷ [])) ≤ 1
    counted p named =
        let all : times p (places_of_all (f.added ++ t ∷ [])) ≡ times p (places_of_all f.added) + times p ps = ap (times p) named ∙ times_append p (places_of_all f.added) ps in
        let before : times p (ps ++ places_of_all f.added) ≡ times p ps + times p (places_of_all f.added) = times_append p ps (places_of_all f.added) in
        elim (low_or_high p (length b)) as (λ _. times p (at ∷ places_of_all (f.added ++ t ∷ [])) ≤ 1) [
          | inl lt ↦ (let here : one_if (at == p) ≡ 0 = unlike (at == p) at p refl (λ e. omega (arith, place, lt, e)) in omega (arith, here, all, before, f.once p))
          | inr le ↦ (let none = none_below p (length b) (ps ++ places_of_all f.added) le f.below in omega (arith, one (at == p), none, all, before))
        ]
      where
        one : (b : Bool) → one_if b ≤ 1
        one true = omega arith
        one false = omega arith

-- with other words for the same trees and places
pub relabelled : (a b : List Term) (ps qs : List ℕ) (ts us : List Tree) → ps ≡ qs → ts ≡ us → Lowers a b ps ts → Lowers a b qs us
relabelled a b ps qs ts us p t f = subst (λ l. Lowers a b l us) p (subst (Lowers a b ps) t f)
