-- Skeletons that are filled in further, and what stays as it is.
use Rattle.std.proofs.Common.{◌≡◌, ℕ, suc, ◌==◌, Bool, true, false, ◌&&◌, ◌||◌, ◌⊎◌, inl, inr, List, [], ◌∷◌, ◌++◌, map, refl, sym, ap, ◌∙◌, subst}
use Rattle.std.specs.Prelude.{not, if◌then◌else◌}
use Rattle.std.proofs.lemmas.Bool.{eqb-true}
use Rattle.std.specs.Str.{bytes_eq}
use Rattle.std.specs.declared.cmp.Ordering.{Ordering}
use Rattle.std.specs.declared.cmp.Ordering.TheVariants as ordering
use Rattle.std.specs.Cmp.Lexicographic.{slice_cmp}
use Rattle.std.specs.Ordering.{nat_cmp, is_eq}
use Rattle.std.proofs.lemmas.Map.Lookups.{exact_bytes}
use Rattle.std.proofs.lemmas.Map.Text.{is_eq-slice_cmp}
use Rattle.case_check.specs.Shapes.{Choice, Wanted, Wanteds, Anything, Literal, NoWanteds, AndWanted, Shape, Shapes, Hole, OtherLiteral, NoShapes, AndShape, count, holes}
use Rattle.case_check.specs.Missing.{clashes, clash_at, is_choice, belongs, belong_at}
use Rattle.case_check.specs.Search.{filled_made, filled_choices, filled, filled_at}

-- ---- lists

abbrev pub AllOf : {A : Type 0} → (A → Type 0) → List A → Type 0
AllOf P [] = Unit {0}
AllOf P (x ∷ xs) = P x × AllOf P xs

abbrev pub AnyOf : {A : Type 0} → (A → Type 0) → List A → Type 0
AnyOf P [] = ⊥
AnyOf P (x ∷ xs) = P x ⊎ AnyOf P xs

pub all_append : {A : Type 0} (P : A → Type 0) (xs ys : List A) → AllOf P xs → AllOf P ys → AllOf P (xs ++ ys)
all_append P [] ys h k = k
all_append P (x ∷ xs) ys h k = (h.0, all_append P xs ys h.1 k)

pub any_left : {A : Type 0} (P : A → Type 0) (xs ys : List A) → AnyOf P xs → AnyOf P (xs ++ ys)
any_left P [] ys h = absurd h
any_left P (x ∷ xs) ys (inl h) = inl h
any_left P (x ∷ xs) ys (inr h) = inr (any_left P xs ys h)

pub any_right : {A : Type 0} (P : A → Type 0) (xs ys : List A) → AnyOf P ys → AnyOf P (xs ++ ys)
any_right P [] ys h = h
any_right P (x ∷ xs) ys h = inr (any_right P xs ys h)

-- ---- conditions

or_cases : (a b : Bool) → (a || b) ≡ true → (a ≡ true) ⊎ (b ≡ true)
or_cases true b e = inl refl
or_cases false b e = inr e

or_left : (a b : Bool) → a ≡ true → (a || b) ≡ true
or_left true b e = refl
or_left false b e = absurd cc

or_right : (a b : Bool) → b ≡ true → (a || b) ≡ true
or_right true b e = refl
or_right false b e = e

pub and_both : (a b : Bool) → (a && b) ≡ true → (a ≡ true) × (b ≡ true)
and_both true b e = (refl, e)
and_both false b e = absurd cc

pub both_and : (a b : Bool) → a ≡ true → b ≡ true → (a && b) ≡ true
both_and true b e f = f
both_and false b e f = absurd cc

same_bytes : (xs ys : List ℕ) → bytes_eq xs ys ≡ true → xs ≡ ys
same_bytes xs ys e = exact_bytes xs ys (equal (slice_cmp nat_cmp xs ys) (is_eq-slice_cmp xs ys ∙ e))
  where
    equal : (o : Ordering) → is_eq o ≡ true → o ≡ ordering.Equal
    equal ordering.Less h = cc h
    equal ordering.Equal h = refl
    equal ordering.Greater h = cc h

-- ---- refining

-- the second has holes of the first filled in
abbrev mutual
  pub Refines : Shape → Shape → Type 0
  Refines Hole t = Unit {0}
  Refines OtherLiteral OtherLiteral = Unit {0}
  Refines (Shape.Made name ss) (Shape.Made other ts) = (name ≡ other) × EachRefines ss ts
  Refines _ _ = ⊥

  pub EachRefines : Shapes → Shapes → Type 0
  EachRefines NoShapes NoShapes = Unit {0}
  EachRefines (AndShape s ss) (AndShape t ts) = Refines s t × EachRefines ss ts
  EachRefines _ _ = ⊥

mutual
  pub itself : (s : Shape) → Refines s s
  itself Hole = tt
  itself OtherLiteral = tt
  itself (Shape.Made name ss) = (refl, each_itself ss)

  pub each_itself : (ss : Shapes) → EachRefines ss ss
  each_itself NoShapes = tt
  each_itself (AndShape s ss) = (itself s, each_itself ss)

same_count : (ss ts : Shapes) → EachRefines ss ts → count ss ≡ count ts
same_count NoShapes NoShapes h = refl
same_count NoShapes (AndShape t ts) h = absurd h
same_count (AndShape s ss) NoShapes h = absurd h
same_count (AndShape s ss) (AndShape t ts) h = ap suc (same_count ss ts h.1)

holes_refine : (ts : Shapes) → EachRefines (holes (count ts)) ts
holes_refine NoShapes = tt
holes_refine (AndShape t ts) = (tt, holes_refine ts)

-- what clashes does so when it is filled in
mutual
  pub clash_stays : (s t : Shape) (w : Wanted) → Refines s t → clashes s w ≡ true → clashes t w ≡ true
  clash_stays Hole t w h e = absurd cc
  clash_stays OtherLiteral OtherLiteral w h e = e
  clash_stays OtherLiteral Hole w h e = absurd h
  clash_stays OtherLiteral (Shape.Made other ts) w h e = absurd h
  clash_stays (Shape.Made name ss) Hole w h e = absurd h
  clash_stays (Shape.Made name ss) OtherLiteral w h e = absurd h
  clash_stays (Shape.Made name ss) (Shape.Made other ts) Anything h e = absurd cc
  clash_stays (Shape.Made name ss) (Shape.Made other ts) Literal h e = absurd cc
  clash_stays (Shape.Made name ss) (Shape.Made other ts) (Wanted.Made union wanted ws) h e =
      by_part (or_cases (not (bytes_eq name wanted)) (clash_at ss ws) e) (clash_at_stays ss ts ws h.1)
    where
      by_part : (not (bytes_eq name wanted) ≡ true) ⊎ (clash_at ss ws ≡ true) → (clash_at ss ws ≡ true → clash_at ts ws ≡ true) → (not (bytes_eq other wanted) || clash_at ts ws) ≡ true
      by_part (inl k) f = or_left (not (bytes_eq other wanted)) (clash_at ts ws) (subst (λ (z : List ℕ). not (bytes_eq z wanted) ≡ true) h.0 k)
      by_part (inr k) f = or_right (not (bytes_eq other wanted)) (clash_at ts ws) (f k)

  pub clash_at_stays : (ss ts : Shapes) (ws : Wanteds) → EachRefines ss ts → clash_at ss ws ≡ true → clash_at ts ws ≡ true
  clash_at_stays NoShapes ts ws h e = absurd cc
  clash_at_stays (AndShape s ss) NoShapes ws h e = absurd h
  clash_at_stays (AndShape s ss) (AndShape t ts) NoWanteds h e = absurd cc
  clash_at_stays (AndShape s ss) (AndShape t ts) (AndWanted w ws) h e =
      by_part (or_cases (clashes s w) (clash_at ss ws) e) (clash_stays s t w h.0) (clash_at_stays ss ts ws h.1)
    where
      by_part : (clashes s w ≡ true) ⊎ (clash_at ss ws ≡ true) → (clashes s w ≡ true → clashes t w ≡ true) → (clash_at ss ws ≡ true → clash_at ts ws ≡ true) → (clashes t w || clash_at ts ws) ≡ true
      by_part (inl k) f g = or_left (clashes t w) (clash_at ts ws) (f k)
      by_part (inr k) f g = or_right (clashes t w) (clash_at ts ws) (g k)

-- what belongs did so before it was filled in
mutual
  pub belonged : (s t : Shape) (w : Wanted) → Refines s t → belongs t w ≡ true → belongs s w ≡ true
  belonged Hole t w h e = refl
  belonged OtherLiteral t w h e = refl
  belonged (Shape.Made name ss) Hole w h e = absurd h
  belonged (Shape.Made name ss) OtherLiteral w h e = absurd h
  belonged (Shape.Made name ss) (Shape.Made other ts) Anything h e = refl
  belonged (Shape.Made name ss) (Shape.Made other ts) Literal h e = refl
  belonged (Shape.Made name ss) (Shape.Made other ts) (Wanted.Made union wanted ws) h e =
      let k = and_both (is_choice other (count ts) union) (not (bytes_eq other wanted) || belong_at ts ws) e in
      both_and (is_choice name (count ss) union) (not (bytes_eq name wanted) || belong_at ss ws)
      (subst (λ (z : ℕ). is_choice name z union ≡ true) (sym (same_count ss ts h.1)) (subst (λ (z : List ℕ). is_choice z (count ts) union ≡ true) (sym h.0) k.0))
      (by_part (or_cases (not (bytes_eq other wanted)) (belong_at ts ws) k.1) (belonged_at ss ts ws h.1))
    where
      by_part : (not (bytes_eq other wanted) ≡ true) ⊎ (belong_at ts ws ≡ true) → (belong_at ts ws ≡ true → belong_at ss ws ≡ true) → (not (bytes_eq name wanted) || belong_at ss ws) ≡ true
      by_part (inl k) f = or_left (not (bytes_eq name wanted)) (belong_at ss ws) (subst (λ (z : List ℕ). not (bytes_eq z wanted) ≡ true) (sym h.0) k)
      by_part (inr k) f = or_right (not (bytes_eq name wanted)) (belong_at ss ws) (f k)

  pub belonged_at : (ss ts : Shapes) (ws : Wanteds) → EachRefines ss ts → belong_at ts ws ≡ true → belong_at ss ws ≡ true
  belonged_at NoShapes ts ws h e = refl
  belonged_at (AndShape s ss) NoShapes ws h e = absurd h
  belonged_at (AndShape s ss) (AndShape t ts) NoWanteds h e = refl
  belonged_at (AndShape s ss) (AndShape t ts) (AndWanted w ws) h e =
      let k = and_both (belongs t w) (belong_at ts ws) e in
      both_and (belongs s w) (belong_at ss ws) (belonged s t w h.0 k.0) (belonged_at ss ts ws h.1 k.1)

-- ---- what is filled in clashes, and refines what it was

pub record Filled (s : Shape) (w : Wanted) (z : Shape) : Type 0 where
  pub refines : Refines s z
  pub clash : clashes z w ≡ true

pub record FilledAt (ss : Shapes) (ws : Wanteds) (zs : Shapes) : Type 0 where
  pub refines : EachRefines ss zs
  pub clash : clash_at zs ws ≡ true

all_made : (s : Shape) (w : Wanted) (name : List ℕ) (P : Shapes → Type 0) (ls : List Shapes) → ((zs : Shapes) → P zs → Filled s w (Shape.Made name zs)) → AllOf P ls → AllOf (Filled s w) (map (Shape.Made name) ls)
all_made s w name P [] f h = tt
all_made s w name P (zs ∷ ls) f h = (f zs h.0, all_made s w name P ls f h.1)

all_before : (s : Shape) (ss : Shapes) (w : Wanted) (ws : Wanteds) (zs : List Shape) → AllOf (Filled s w) zs → AllOf (FilledAt (AndShape s ss) (AndWanted w ws)) (map (λ z. AndShape z ss) zs)
all_before s ss w ws [] h = tt
all_before s ss w ws (z ∷ zs) h =
    (record { refines = (h.0.refines, each_itself ss); clash = or_left (clashes z w) (clash_at ss ws) h.0.clash }, all_before s ss w ws zs h.1)

all_behind : (s : Shape) (ss : Shapes) (w : Wanted) (ws : Wanteds) (ls : List Shapes) → AllOf (FilledAt ss ws) ls → AllOf (FilledAt (AndShape s ss) (AndWanted w ws)) (map (AndShape s) ls)
all_behind s ss w ws [] h = tt
all_behind s ss w ws (zs ∷ ls) h =
    (record { refines = (itself s, h.0.refines); clash = or_right (clashes s w) (clash_at zs ws) h.0.clash }, all_behind s ss w ws ls h.1)

-- one constructor
all_filled_made : (s : Shape) (union : List Choice) (wanted : List ℕ) (ws : Wanteds) (name : List ℕ) (ss : Shapes) → ((zs : Shapes) → EachRefines ss zs → Refines s (Shape.Made name zs)) → AllOf (FilledAt ss ws) (filled_at ss ws) → AllOf (Filled s (Wanted.Made union wanted ws)) (filled_made name ss wanted (λ z. filled_at z ws))
all_filled_made s union wanted ws name ss f h = here (bytes_eq name wanted) refl
  where
    here : (b : Bool) → bytes_eq name wanted ≡ b → AllOf (Filled s (Wanted.Made union wanted ws)) (if b then map (Shape.Made name) (filled_at ss ws) else Shape.Made name ss ∷ [])
    here true e =
        all_made s (Wanted.Made union wanted ws) name (FilledAt ss ws) (filled_at ss ws)
        (λ zs k. record { refines = f zs k.refines; clash = or_right (not (bytes_eq name wanted)) (clash_at zs ws) k.clash }) h
    here false e =
        (record { refines = f ss (each_itself ss); clash = or_left (not (bytes_eq name wanted)) (clash_at ss ws) (ap not e) }, tt)

all_filled_choices : (union : List Choice) (wanted : List ℕ) (ws : Wanteds) (cs : List Choice) → ((ss : Shapes) → AllOf (FilledAt ss ws) (filled_at ss ws)) → AllOf (Filled Hole (Wanted.Made union wanted ws)) (filled_choices cs wanted (λ z. filled_at z ws))
all_filled_choices union wanted ws [] f = tt
all_filled_choices union wanted ws (c ∷ cs) f =
    all_append (Filled Hole (Wanted.Made union wanted ws)) (filled_made c.0 (holes c.1) wanted (λ z. filled_at z ws)) (filled_choices cs wanted (λ z. filled_at z ws))
    (all_filled_made Hole union wanted ws c.0 (holes c.1) (λ zs k. tt) (f (holes c.1))) (all_filled_choices union wanted ws cs f)

mutual
  pub all_filled : (w : Wanted) (s : Shape) → AllOf (Filled s w) (filled s w)
  all_filled Anything Hole = tt
  all_filled Anything OtherLiteral = tt
  all_filled Anything (Shape.Made name ss) = tt
  all_filled Literal Hole = (record { refines = tt; clash = refl }, tt)
  all_filled Literal OtherLiteral = (record { refines = tt; clash = refl }, tt)
  all_filled Literal (Shape.Made name ss) = tt
  all_filled (Wanted.Made union wanted ws) Hole = all_filled_choices union wanted ws union (all_filled_at ws)
  all_filled (Wanted.Made union wanted ws) OtherLiteral = tt
  all_filled (Wanted.Made union wanted ws) (Shape.Made name ss) =
      all_filled_made (Shape.Made name ss) union wanted ws name ss (λ zs k. (refl, k)) (all_filled_at ws ss)

  pub all_filled_at : (ws : Wanteds) (ss : Shapes) → AllOf (FilledAt ss ws) (filled_at ss ws)
  all_filled_at NoWanteds NoShapes = tt
  all_filled_at NoWanteds (AndShape s ss) = tt
  all_filled_at (AndWanted w ws) NoShapes = tt
  all_filled_at (AndWanted w ws) (AndShape s ss) =
      all_append (FilledAt (AndShape s ss) (AndWanted w ws)) (map (λ z. AndShape z ss) (filled s w)) (map (AndShape s) (filled_at ss ws))
      (all_before s ss w ws (filled s w) (all_filled w s)) (all_behind s ss w ws (filled_at ss ws) (all_filled_at ws ss))

-- ---- each skeleton that clashes refines one that is filled in

any_made : (name : List ℕ) (ts : Shapes) (ls : List Shapes) → AnyOf (λ zs. EachRefines zs ts) ls → AnyOf (λ z. Refines z (Shape.Made name ts)) (map (Shape.Made name) ls)
any_made name ts [] h = absurd h
any_made name ts (zs ∷ ls) (inl h) = inl (refl, h)
any_made name ts (zs ∷ ls) (inr h) = inr (any_made name ts ls h)

any_before : (t : Shape) (ss ts : Shapes) (zs : List Shape) → EachRefines ss ts → AnyOf (λ z. Refines z t) zs → AnyOf (λ z. EachRefines z (AndShape t ts)) (map (λ z. AndShape z ss) zs)
any_before t ss ts [] k h = absurd h
any_before t ss ts (z ∷ zs) k (inl h) = inl (h, k)
any_before t ss ts (z ∷ zs) k (inr h) = inr (any_before t ss ts zs k h)

any_behind : (s t : Shape) (ts : Shapes) (ls : List Shapes) → Refines s t → AnyOf (λ z. EachRefines z ts) ls → AnyOf (λ z. EachRefines z (AndShape t ts)) (map (AndShape s) ls)
any_behind s t ts [] k h = absurd h
any_behind s t ts (zs ∷ ls) k (inl h) = inl (k, h)
any_behind s t ts (zs ∷ ls) k (inr h) = inr (any_behind s t ts ls k h)

-- what the induction gives for the arguments
abbrev pub FindsAt : Wanteds → Type 0
FindsAt ws = (ss ts : Shapes) → EachRefines ss ts → clash_at ts ws ≡ true → belong_at ts ws ≡ true → AnyOf (λ z. EachRefines z ts) (filled_at ss ws)

any_filled_made : (wanted : List ℕ) (ws : Wanteds) (name : List ℕ) (ss ts : Shapes) → EachRefines ss ts → (not (bytes_eq name wanted) || clash_at ts ws) ≡ true → (not (bytes_eq name wanted) || belong_at ts ws) ≡ true → FindsAt ws → AnyOf (λ z. Refines z (Shape.Made name ts)) (filled_made name ss wanted (λ z. filled_at z ws))
any_filled_made wanted ws name ss ts h e k f = here (bytes_eq name wanted) e k
  where
    here : (b : Bool) → (not b || clash_at ts ws) ≡ true → (not b || belong_at ts ws) ≡ true → AnyOf (λ z. Refines z (Shape.Made name ts)) (if b then map (Shape.Made name) (filled_at ss ws) else Shape.Made name ss ∷ [])
    here true d g = any_made name ts (filled_at ss ws) (f ss ts h d g)
    here false d g = inl (refl, h)

any_filled_choices : (cs : List Choice) (wanted : List ℕ) (ws : Wanteds) (name : List ℕ) (ts : Shapes) → is_choice name (count ts) cs ≡ true → (not (bytes_eq name wanted) || clash_at ts ws) ≡ true → (not (bytes_eq name wanted) || belong_at ts ws) ≡ true → FindsAt ws → AnyOf (λ z. Refines z (Shape.Made name ts)) (filled_choices cs wanted (λ z. filled_at z ws))
any_filled_choices [] wanted ws name ts i e k f = absurd cc
any_filled_choices (c ∷ cs) wanted ws name ts i e k f =
    by_choice (or_cases (bytes_eq c.0 name && (c.1 == count ts)) (is_choice name (count ts) cs) i) (λ j. any_filled_choices cs wanted ws name ts j e k f)
  where
    here : (other : List ℕ) (n : ℕ) → other ≡ name → n ≡ count ts → AnyOf (λ z. Refines z (Shape.Made name ts)) (filled_made other (holes n) wanted (λ z. filled_at z ws))
    here other n p q =
        subst (λ (z : List ℕ). AnyOf (λ y. Refines y (Shape.Made name ts)) (filled_made z (holes n) wanted (λ y. filled_at y ws))) (sym p)
        (subst (λ (z : ℕ). AnyOf (λ y. Refines y (Shape.Made name ts)) (filled_made name (holes z) wanted (λ y. filled_at y ws))) (sym q)
        (any_filled_made wanted ws name (holes (count ts)) ts (holes_refine ts) e k f))

    by_choice : ((bytes_eq c.0 name && (c.1 == count ts)) ≡ true) ⊎ (is_choice name (count ts) cs ≡ true)
        → (is_choice name (count ts) cs ≡ true → AnyOf (λ z. Refines z (Shape.Made name ts)) (filled_choices cs wanted (λ z. filled_at z ws)))
        → AnyOf (λ z. Refines z (Shape.Made name ts)) (filled_made c.0 (holes c.1) wanted (λ z. filled_at z ws) ++ filled_choices cs wanted (λ z. filled_at z ws))
    by_choice (inl j) g =
        let b = and_both (bytes_eq c.0 name) (c.1 == count ts) j in
        any_left (λ z. Refines z (Shape.Made name ts)) (filled_made c.0 (holes c.1) wanted (λ z. filled_at z ws)) (filled_choices cs wanted (λ z. filled_at z ws))
        (here c.0 c.1 (same_bytes c.0 name b.0) (eqb-true c.1 (count ts) b.1))
    by_choice (inr j) g =
        any_right (λ z. Refines z (Shape.Made name ts)) (filled_made c.0 (holes c.1) wanted (λ z. filled_at z ws)) (filled_choices cs wanted (λ z. filled_at z ws)) (g j)

no_clash : (ts : Shapes) → clash_at ts NoWanteds ≡ true → ⊥
no_clash NoShapes e = absurd cc
no_clash (AndShape t ts) e = absurd cc

mutual
  pub any_filled : (w : Wanted) (s t : Shape) → Refines s t → clashes t w ≡ true → belongs t w ≡ true → AnyOf (λ z. Refines z t) (filled s w)
  any_filled Anything s Hole h e k = absurd cc
  any_filled Anything s OtherLiteral h e k = absurd cc
  any_filled Anything s (Shape.Made name ts) h e k = absurd cc
  any_filled Literal s Hole h e k = absurd cc
  any_filled Literal Hole OtherLiteral h e k = inl tt
  any_filled Literal OtherLiteral OtherLiteral h e k = inl tt
  any_filled Literal (Shape.Made name ss) OtherLiteral h e k = absurd h
  any_filled Literal s (Shape.Made name ts) h e k = absurd cc
  any_filled (Wanted.Made union wanted ws) s Hole h e k = absurd cc
  any_filled (Wanted.Made union wanted ws) s OtherLiteral h e k = absurd cc
  any_filled (Wanted.Made union wanted ws) Hole (Shape.Made name ts) h e k =
      let b = and_both (is_choice name (count ts) union) (not (bytes_eq name wanted) || belong_at ts ws) k in
      any_filled_choices union wanted ws name ts b.0 e b.1 (any_filled_at ws)
  any_filled (Wanted.Made union wanted ws) OtherLiteral (Shape.Made name ts) h e k = absurd h
  any_filled (Wanted.Made union wanted ws) (Shape.Made other ss) (Shape.Made name ts) h e k =
      let b = and_both (is_choice name (count ts) union) (not (bytes_eq name wanted) || belong_at ts ws) k in
      subst (λ (z : List ℕ). AnyOf (λ y. Refines y (Shape.Made name ts)) (filled_made z ss wanted (λ y. filled_at y ws))) (sym h.0)
      (any_filled_made wanted ws name ss ts h.1 e b.1 (any_filled_at ws))

  pub any_filled_at : (ws : Wanteds) → FindsAt ws
  any_filled_at NoWanteds NoShapes ts h e k = absurd (no_clash ts e)
  any_filled_at NoWanteds (AndShape s ss) ts h e k = absurd (no_clash ts e)
  any_filled_at (AndWanted w ws) NoShapes NoShapes h e k = absurd cc
  any_filled_at (AndWanted w ws) NoShapes (AndShape t ts) h e k = absurd h
  any_filled_at (AndWanted w ws) (AndShape s ss) NoShapes h e k = absurd h
  any_filled_at (AndWanted w ws) (AndShape s ss) (AndShape t ts) h e k =
      let b = and_both (belongs t w) (belong_at ts ws) k in
      by_part (or_cases (clashes t w) (clash_at ts ws) e) (λ d. any_filled w s t h.0 d b.0) (λ d. any_filled_at ws ss ts h.1 d b.1)
    where
      by_part : (clashes t w ≡ true) ⊎ (clash_at ts ws ≡ true) → (clashes t w ≡ true → AnyOf (λ z. Refines z t) (filled s w)) → (clash_at ts ws ≡ true → AnyOf (λ z. EachRefines z ts) (filled_at ss ws))
          → AnyOf (λ z. EachRefines z (AndShape t ts)) (map (λ z. AndShape z ss) (filled s w) ++ map (AndShape s) (filled_at ss ws))
      by_part (inl d) f g =
          any_left (λ z. EachRefines z (AndShape t ts)) (map (λ z. AndShape z ss) (filled s w)) (map (AndShape s) (filled_at ss ws)) (any_before t ss ts (filled s w) h.1 (f d))
      by_part (inr d) f g =
          any_right (λ z. EachRefines z (AndShape t ts)) (map (λ z. AndShape z ss) (filled s w)) (map (AndShape s) (filled_at ss ws)) (any_behind s t ts (filled_at ss ws) h.0 (g d))
