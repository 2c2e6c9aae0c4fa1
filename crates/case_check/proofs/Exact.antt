-- What is found is missing, and where nothing is found nothing is missing.
use Rattle.std.proofs.Common.{◌≡◌, Bool, true, false, inl, inr, Some, None, List, [], ◌∷◌, refl, subst}
use Rattle.std.specs.Prelude.{if◌then◌else◌}
use Rattle.case_check.specs.Shapes.{Wanted, Shape, Hole}
use Rattle.case_check.specs.Missing.{clashes, belongs, IsMissing}
use Rattle.case_check.specs.Search.{filled, split, split_all, left_after, belongs_to_all, first_of, missing_of}
use Rattle.case_check.proofs.Refining.{AllOf, AnyOf, all_append, any_left, any_right, and_both, both_and, Refines, clash_stays, belonged, Filled, all_filled, any_filled}

abbrev ClashAll : Shape → List Wanted → Type 0
ClashAll s [] = Unit {0}
ClashAll s (w ∷ ws) = (clashes s w ≡ true) × ClashAll s ws

all_weaker : (P Q : Shape → Type 0) (zs : List Shape) → ((z : Shape) → P z → Q z) → AllOf P zs → AllOf Q zs
all_weaker P Q [] f h = tt
all_weaker P Q (z ∷ zs) f h = (f z h.0, all_weaker P Q zs f h.1)

-- what stays when it is filled in
abbrev Stays : (Shape → Type 0) → Type 0
Stays P = (s z : Shape) → Refines s z → P s → P z

all_split : (P : Shape → Type 0) (s : Shape) (w : Wanted) → Stays P → P s → AllOf (λ z. P z × (clashes z w ≡ true)) (split s w)
all_split P s w f h = here (clashes s w) refl
  where
    here : (b : Bool) → clashes s w ≡ b → AllOf (λ z. P z × (clashes z w ≡ true)) (if b then s ∷ [] else filled s w)
    here true e = ((h, e), tt)
    here false e = all_weaker (Filled s w) (λ z. P z × (clashes z w ≡ true)) (filled s w) (λ z k. (f s z k.refines h, k.clash)) (all_filled w s)

all_split_all : (P : Shape → Type 0) (ss : List Shape) (w : Wanted) → Stays P → AllOf P ss → AllOf (λ z. P z × (clashes z w ≡ true)) (split_all ss w)
all_split_all P [] w f h = tt
all_split_all P (s ∷ ss) w f h =
    all_append (λ z. P z × (clashes z w ≡ true)) (split s w) (split_all ss w) (all_split P s w f h.0) (all_split_all P ss w f h.1)

all_left : (P : Shape → Type 0) (ss : List Shape) (ws : List Wanted) → Stays P → AllOf P ss → AllOf (λ z. P z × ClashAll z ws) (left_after ss ws)
all_left P ss [] f h = all_weaker P (λ z. P z × Unit {0}) ss (λ z k. (k, tt)) h
all_left P ss (w ∷ ws) f h =
    all_weaker (λ z. (P z × (clashes z w ≡ true)) × ClashAll z ws) (λ z. P z × ClashAll z (w ∷ ws)) (left_after (split_all ss w) ws)
    (λ z k. (k.0.0, (k.0.1, k.1)))
    (all_left (λ z. P z × (clashes z w ≡ true)) (split_all ss w) ws (λ s z r k. (f s z r k.0, clash_stays s z w r k.1)) (all_split_all P ss w f h))

-- ---- a missing one refines one that is left

any_split : (s t : Shape) (w : Wanted) → Refines s t → clashes t w ≡ true → belongs t w ≡ true → AnyOf (λ z. Refines z t) (split s w)
any_split s t w h e k = here (clashes s w)
  where
    here : (b : Bool) → AnyOf (λ z. Refines z t) (if b then s ∷ [] else filled s w)
    here true = inl h
    here false = any_filled w s t h e k

any_split_all : (ss : List Shape) (t : Shape) (w : Wanted) → AnyOf (λ z. Refines z t) ss → clashes t w ≡ true → belongs t w ≡ true → AnyOf (λ z. Refines z t) (split_all ss w)
any_split_all [] t w h e k = absurd h
any_split_all (s ∷ ss) t w (inl h) e k = any_left (λ z. Refines z t) (split s w) (split_all ss w) (any_split s t w h e k)
any_split_all (s ∷ ss) t w (inr h) e k = any_right (λ z. Refines z t) (split s w) (split_all ss w) (any_split_all ss t w h e k)

any_after : (ss : List Shape) (ws : List Wanted) (t : Shape) → AnyOf (λ z. Refines z t) ss → IsMissing t ws → AnyOf (λ z. Refines z t) (left_after ss ws)
any_after ss [] t h m = h
any_after ss (w ∷ ws) t h m = any_after (split_all ss w) ws t (any_split_all ss t w h m.0 m.1) m.2

-- ---- the first of them

all_belong : (s t : Shape) (ws : List Wanted) → Refines s t → IsMissing t ws → belongs_to_all s ws ≡ true
all_belong s t [] h m = refl
all_belong s t (w ∷ ws) h m = both_and (belongs s w) (belongs_to_all s ws) (belonged s t w h m.1) (all_belong s t ws h m.2)

is_missing : (s : Shape) (ws : List Wanted) → ClashAll s ws → belongs_to_all s ws ≡ true → IsMissing s ws
is_missing s [] h e = tt
is_missing s (w ∷ ws) h e = (let b = and_both (belongs s w) (belongs_to_all s ws) e in (h.0, b.0, is_missing s ws h.1 b.1))

first_found : (ws : List Wanted) (P : Shape → Type 0) (ss : List Shape) (s : Shape) → AllOf P ss → first_of ws ss ≡ Some s → P s × (belongs_to_all s ws ≡ true)
first_found ws P [] s h e = absurd cc
first_found ws P (z ∷ ss) s h e = here (belongs_to_all z ws) refl e (first_found ws P ss s h.1)
  where
    here : (b : Bool) → belongs_to_all z ws ≡ b → (if b then Some z else first_of ws ss) ≡ Some s → (first_of ws ss ≡ Some s → P s × (belongs_to_all s ws ≡ true)) → P s × (belongs_to_all s ws ≡ true)
    here true d k f = (let i : z ≡ s = cc in subst (λ (y : Shape). P y × (belongs_to_all y ws ≡ true)) i (h.0, d))
    here false d k f = f k

none_found : (ws : List Wanted) (ss : List Shape) (t : Shape) → IsMissing t ws → AnyOf (λ z. Refines z t) ss → first_of ws ss ≡ None → ⊥
none_found ws [] t m h e = absurd h
none_found ws (z ∷ ss) t m (inl h) e =
    let b = all_belong z t ws h m in
    let i : (if true then Some z else first_of ws ss) ≡ None = subst (λ (y : Bool). (if y then Some z else first_of ws ss) ≡ None) b e in
    absurd cc
none_found ws (z ∷ ss) t m (inr h) e = here (belongs_to_all z ws) e (none_found ws ss t m h)
  where
    here : (b : Bool) → (if b then Some z else first_of ws ss) ≡ None → (first_of ws ss ≡ None → ⊥) → ⊥
    here true k f = absurd cc
    here false k f = f k

pub found_is_missing : (ws : List Wanted) (s : Shape) → missing_of ws ≡ Some s → IsMissing s ws
found_is_missing ws s e =
    let all = all_left (λ z. Unit {0}) (Hole ∷ []) ws (λ s z r h. tt) (tt, tt) in
    let found = first_found ws (λ z. Unit {0} × ClashAll z ws) (left_after (Hole ∷ []) ws) s all e in
    is_missing s ws found.0.1 found.1

pub none_is_missing : (ws : List Wanted) → missing_of ws ≡ None → (t : Shape) → IsMissing t ws → ⊥
none_is_missing ws e t m = none_found ws (left_after (Hole ∷ []) ws) t m (any_after (Hole ∷ []) ws t (inl tt) m) e
