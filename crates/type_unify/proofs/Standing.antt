-- Where a variable stands.
use Rattle.std.proofs.Common.{◌≡◌, ◌≢◌, ◌⊎◌, ℕ, ◌+◌, ◌<◌, ◌≤◌, List, [], ◌∷◌, ◌++◌, length, refl, sym, ap, subst, arith, inl, inr}
use Rattle.type_terms.specs.declared.node.Node.{Node}
use Rattle.type_terms.specs.declared.node.Node.TheVariants.{End, Link}
use Rattle.type_terms.specs.declared.shape.Shape.{Shape}
use Rattle.type_terms.specs.Depth.{IsBelow, sum_of, weight}
use Rattle.type_terms.specs.Terms.{State, nodes_of, node_at, parts, below, Each, Among, LinksTo, itself, further, StandsIn, here, within, IsVariable}
use Rattle.type_unify.specs.Steps.{IsShapeAt}

-- the variable stands in some term of the list
abbrev pub StandsAmong : List Node → ℕ → List ℕ → Type 0
StandsAmong nodes v [] = ⊥
StandsAmong nodes v (k ∷ ks) = StandsIn nodes v k ⊎ StandsAmong nodes v ks

pub each_append : (P : ℕ → Type 0) (xs ys : List ℕ) → Each P xs → Each P ys → Each P (xs ++ ys)
each_append P [] ys h k = k
each_append P (x ∷ xs) ys h k = (h.0, each_append P xs ys h.1 k)

pub each_front : (P : ℕ → Type 0) (xs : List ℕ) (x : ℕ) → Each P (xs ++ x ∷ []) → Each P xs × P x
each_front P [] x h = (tt, h.0)
each_front P (y ∷ xs) x h = let r = each_front P xs x h.1 in ((h.0, r.0), r.1)

pub each_of : (P : ℕ → Type 0) (xs : List ℕ) → ((k : ℕ) → Among k xs → P k) → Each P xs
each_of P [] f = tt
each_of P (x ∷ xs) f = (f x (inl refl), each_of P xs (λ k m. f k (inr m)))

pub sum_append : (w : ℕ → ℕ) (xs ys : List ℕ) → sum_of w (xs ++ ys) ≡ sum_of w xs + sum_of w ys
sum_append w [] ys = omega arith
sum_append w (x ∷ xs) ys = let i = sum_append w xs ys in omega (arith, i)

among_left : (nodes : List Node) (v : ℕ) (xs ys : List ℕ) → StandsAmong nodes v xs → StandsAmong nodes v (xs ++ ys)
among_left nodes v [] ys h = absurd h
among_left nodes v (x ∷ xs) ys h = elim h as (λ _. StandsAmong nodes v ((x ∷ xs) ++ ys)) [ inl s ↦ inl s | inr r ↦ inr (among_left nodes v xs ys r) ]

among_right : (nodes : List Node) (v : ℕ) (xs ys : List ℕ) → StandsAmong nodes v ys → StandsAmong nodes v (xs ++ ys)
among_right nodes v [] ys h = h
among_right nodes v (x ∷ xs) ys h = inr (among_right nodes v xs ys h)

among_split : (nodes : List Node) (v : ℕ) (xs : List ℕ) (x : ℕ) → StandsAmong nodes v (xs ++ x ∷ []) → StandsAmong nodes v xs ⊎ StandsIn nodes v x
among_split nodes v [] x h = elim h as (λ _. StandsAmong nodes v [] ⊎ StandsIn nodes v x) [ inl s ↦ inr s | inr n ↦ absurd n ]
among_split nodes v (y ∷ xs) x h = elim h as (λ _. StandsAmong nodes v (y ∷ xs) ⊎ StandsIn nodes v x) [
  | inl s ↦ inl (inl s)
  | inr r ↦ elim (among_split nodes v xs x r) as (λ _. StandsAmong nodes v (y ∷ xs) ⊎ StandsIn nodes v x) [ inl q ↦ inl (inr q) | inr s ↦ inr s ]
]

among_member : (nodes : List Node) (v k : ℕ) (xs : List ℕ) → Among k xs → StandsIn nodes v k → StandsAmong nodes v xs
among_member nodes v k [] m s = absurd m
among_member nodes v k (x ∷ xs) m s =
    elim m as (λ _. StandsAmong nodes v (x ∷ xs)) [ inl e ↦ inl (subst (StandsIn nodes v) e s) | inr n ↦ inr (among_member nodes v k xs n s) ]

-- a variable that stands behind links stands at their end
pub through_links : (nodes : List Node) (v end i : ℕ) → IsVariable (node_at nodes v) → LinksTo nodes end i → StandsIn nodes v i → StandsIn nodes v end
through_links nodes v end _ var (itself) s = s
through_links nodes v end _ var (further i next e l) s = through_links nodes v end next var l (next_stands i next e s)
  where
    variable_no_link : (n : Node) (to : ℕ) → n ≡ Link to → IsVariable n → ⊥
    variable_no_link n to e var = subst IsVariable e var

    next_stands : (i next : ℕ) → node_at nodes i ≡ Link next → StandsIn nodes v i → StandsIn nodes v next
    next_stands _ next e (here) = absurd (variable_no_link (node_at nodes v) next e var)
    next_stands _ next e (within i k m r) =
        let m' : Among k (next ∷ []) = subst (λ (n : Node). Among k (below n)) e m in
        elim m' as (λ _. StandsIn nodes v next) [ inl x ↦ subst (StandsIn nodes v) x r | inr n ↦ absurd n ]

pub along_links : (nodes : List Node) (v end i : ℕ) → LinksTo nodes end i → StandsIn nodes v end → StandsIn nodes v i
along_links nodes v end _ (itself) s = s
along_links nodes v end _ (further i next e l) s =
    within i next (subst (λ (n : Node). Among next (below n)) (sym e) (inl refl)) (along_links nodes v end next l s)

pub in_parts : (nodes : List Node) (v end : ℕ) (sh : Shape) → node_at nodes end ≡ End sh → end ≢ v → StandsIn nodes v end → StandsAmong nodes v (parts sh)
in_parts nodes v _ sh e ne (here) = absurd (ne refl)
in_parts nodes v _ sh e ne (within end k m r) = among_member nodes v k (parts sh) (subst (λ (n : Node). Among k (below n)) e m) r

-- the search goes on exactly where the variable stands in the term
pub record Looks (nodes : List Node) (v at : ℕ) (waiting : List ℕ) : Type 0 where
  pub inside : Each (IsBelow (length nodes)) waiting
  pub found : Each (λ k. StandsIn nodes v k → StandsIn nodes v at) waiting
  pub left : StandsIn nodes v at → StandsAmong nodes v waiting

pub looks_first : (nodes : List Node) (v at : ℕ) (waiting : List ℕ) → at < length nodes → waiting ≡ [] ++ at ∷ [] → Looks nodes v at waiting
looks_first nodes v at waiting lt e =
    subst (Looks nodes v at) (sym e) (record { inside = (lt, tt); found = ((λ s. s), tt); left = λ s. inl s })

pub pops_inside : (nodes : List Node) (v at : ℕ) (waiting rest : List ℕ) (term : ℕ) → Looks nodes v at waiting → waiting ≡ rest ++ term ∷ [] → term < length nodes
pops_inside nodes v at waiting rest term l e = (each_front (IsBelow (length nodes)) rest term (subst (Each (IsBelow (length nodes))) e l.inside)).1

pub found_here : (nodes : List Node) (v at : ℕ) (waiting rest : List ℕ) (term end : ℕ) → Looks nodes v at waiting → waiting ≡ rest ++ term ∷ [] → LinksTo nodes end term → end ≡ v →
    StandsIn nodes v at
found_here nodes v at waiting rest term end l e leads same =
    (each_front (λ k. StandsIn nodes v k → StandsIn nodes v at) rest term (subst (Each (λ k. StandsIn nodes v k → StandsIn nodes v at)) e l.found)).1
    (along_links nodes v end term leads (subst (StandsIn nodes v) (sym same) here))

pub looks_on : (store : List State) (v at : ℕ) (waiting rest after : List ℕ) (term end : ℕ) (sh : Shape) → Looks (nodes_of store) v at waiting → waiting ≡ rest ++ term ∷ [] →
    IsVariable (node_at (nodes_of store) v) → LinksTo (nodes_of store) end term → (end ≡ v → ⊥) → IsShapeAt store end sh → after ≡ rest ++ parts sh → Looks (nodes_of store) v at after
looks_on store v at waiting rest after term end sh l e var leads ne is behind = subst (Looks (nodes_of store) v at) (sym behind) (record {
  inside = each_append (IsBelow (length (nodes_of store))) rest (parts sh) (each_front (IsBelow (length (nodes_of store))) rest term (subst (Each (IsBelow (length (nodes_of store)))) e l.inside)).0 is.inside;
  found =
      let P = λ (k : ℕ). StandsIn (nodes_of store) v k → StandsIn (nodes_of store) v at in
      let old = each_front P rest term (subst (Each P) e l.found) in
      each_append P rest (parts sh) old.0
      (each_of P (parts sh) (λ k m s. old.1 (along_links (nodes_of store) v end term leads (within end k (subst (λ (n : Node). Among k (below n)) (sym is.here) m) s))));
  left = λ s.
      elim (among_split (nodes_of store) v rest term (subst (StandsAmong (nodes_of store) v) e (l.left s))) as (λ _. StandsAmong (nodes_of store) v (rest ++ parts sh)) [
        | inl q ↦ among_left (nodes_of store) v rest (parts sh) q
        | inr t ↦ among_right (nodes_of store) v rest (parts sh) (in_parts (nodes_of store) v end sh is.here ne (through_links (nodes_of store) v end term var leads t))
      ];
})

pub looks_lighter : (store : List State) (waiting rest after : List ℕ) (term end : ℕ) (sh : Shape) → waiting ≡ rest ++ term ∷ [] → weight store end ≤ weight store term →
    IsShapeAt store end sh → after ≡ rest ++ parts sh → sum_of (weight store) after < sum_of (weight store) waiting
looks_lighter store waiting rest after term end sh e lighter is behind =
    let x = ap (sum_of (weight store)) e in let y = ap (sum_of (weight store)) behind in
    let p = sum_append (weight store) rest (term ∷ []) in let q = sum_append (weight store) rest (parts sh) in let l = is.light in
    omega (arith, x, y, p, q, l, lighter)

pub not_found : (nodes : List Node) (v at : ℕ) (waiting : List ℕ) → Looks nodes v at waiting → waiting ≡ [] → StandsIn nodes v at → ⊥
not_found nodes v at waiting l e s = subst (StandsAmong nodes v) e (l.left s)

pub fewer_wait : (store : List State) (waiting rest : List ℕ) (term : ℕ) → waiting ≡ rest ++ term ∷ [] → 0 < weight store term → sum_of (weight store) rest < sum_of (weight store) waiting
fewer_wait store waiting rest term e some =
    let x = ap (sum_of (weight store)) e in let p = sum_append (weight store) rest (term ∷ []) in omega (arith, x, p, some)
