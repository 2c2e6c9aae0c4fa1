-- Depth and size of the terms of a store, and that each change keeps a store sound.
use Rattle.std.proofs.Common.{◌≡◌, ◌≢◌, ℕ, zero, suc, ◌+◌, ◌^◌, ◌<◌, ◌≤◌, List, [], ◌∷◌, ◌++◌, length, refl, sym, ap, subst, arith, inl, get_or-set_other, get_or-set_same, set, length-set, length-append, lit<}
use Rattle.std.proofs.lemmas.List.{get_or_past}
use lib.ListN.{get_or-append}
use native.Mathlib.Decide.{ℕ_discrete, dec_lt}
use Rattle.std.proofs.Math.Seq.{get_or-append_seam}
use Rattle.elm_typing.specs.declared.flag.Flag.TheVariants.{Plain}
use Rattle.type_terms.specs.declared.node.Node.{Node}
use Rattle.type_terms.specs.declared.node.Node.TheVariants.{End, Link}
use Rattle.type_terms.specs.declared.shape.Shape.{Shape}
use Rattle.type_terms.specs.declared.shape.Shape.TheVariants as shape
use Rattle.type_terms.specs.Terms.{State, nodes_of, notes_of, node_at, parts, below, Each, Among, IsLink, LinksTo, itself, further, StandsIn, here, within}
use Rattle.type_terms.specs.Depth.{EndsWithin, doubled, IsBelow, IsSound, AreNotesBelow, AreSound, sum_of, size, weight}
use Rattle.type_terms.proofs.Lists.{Each-map, Each-map_among, Each-at, sum_of-same, among-sum_of}

pub EndsWithin-more : (nodes : List Node) (f g i : ℕ) → f ≤ g → EndsWithin nodes f i → EndsWithin nodes g i
EndsWithin-more nodes zero g i le h = elim h [ ]
EndsWithin-more nodes (suc f) zero i le h = absurd (omega arith)
EndsWithin-more nodes (suc f) (suc g) i le h =
    Each-map (EndsWithin nodes f) (EndsWithin nodes g) (λ k. EndsWithin-more nodes f g k (omega arith)) (below (node_at nodes i)) h

pub size-more : (nodes : List Node) (f g i : ℕ) → f ≤ g → EndsWithin nodes f i → size nodes f i ≡ size nodes g i
size-more nodes zero g i le h = elim h [ ]
size-more nodes (suc f) zero i le h = absurd (omega arith)
size-more nodes (suc f) (suc g) i le h =
    ap suc (sum_of-same (size nodes f) (size nodes g) (EndsWithin nodes f) (λ k. size-more nodes f g k (omega arith)) (below (node_at nodes i)) h)

-- all that stands directly below a term is smaller, taken together
pub size-below : (nodes : List Node) (f i : ℕ) → EndsWithin nodes f i → size nodes f i ≡ suc (sum_of (size nodes f) (below (node_at nodes i)))
size-below nodes zero i h = elim h [ ]
size-below nodes (suc f) i h =
    ap suc (sum_of-same (size nodes f) (size nodes (suc f)) (EndsWithin nodes f) (λ k. size-more nodes f (suc f) k (omega arith)) (below (node_at nodes i)) h)

pub size-part : (nodes : List Node) (f i k : ℕ) → EndsWithin nodes f i → Among k (below (node_at nodes i)) → size nodes f k < size nodes f i
size-part nodes f i k h m = omega (arith, size-below nodes f i h, among-sum_of (size nodes f) k (below (node_at nodes i)) m)

-- a node that is written where it doesn't stand below --

pub node_at-set_other : (nodes : List Node) (at i : ℕ) (node : Node) → i ≢ at → node_at (set nodes at node) i ≡ node_at nodes i
node_at-set_other nodes at i node ne = get_or-set_other nodes at i node (End (shape.Variable Plain)) ne

pub node_at-set_same : (nodes : List Node) (at : ℕ) (node : Node) → at < length nodes → node_at (set nodes at node) at ≡ node
node_at-set_same nodes at node lt = get_or-set_same nodes at node (End (shape.Variable Plain)) lt

pub EndsWithin-apart : (nodes : List Node) (at : ℕ) (node : Node) (f i : ℕ) → (StandsIn nodes at i → ⊥) → EndsWithin nodes f i → EndsWithin (set nodes at node) f i
EndsWithin-apart nodes at node zero i apart h = elim h [ ]
EndsWithin-apart nodes at node (suc f) i apart h =
    let ne : i ≢ at = λ e. apart (subst (StandsIn nodes at) (sym e) here) in
    subst (λ (n : Node). Each (EndsWithin (set nodes at node) f) (below n)) (sym (node_at-set_other nodes at i node ne))
    (Each-map_among (EndsWithin nodes f) (EndsWithin (set nodes at node) f) (below (node_at nodes i))
    (λ k m. EndsWithin-apart nodes at node f k (λ r. apart (within i k m r))) h)

-- what is written at `at` ends within g steps after the change
pub EndsWithin-set : (nodes : List Node) (at : ℕ) (node : Node) → at < length nodes →
    (f g h i : ℕ) → f + g ≤ h → Each (EndsWithin (set nodes at node) g) (below node) → EndsWithin nodes f i → EndsWithin (set nodes at node) h i
EndsWithin-set nodes at node lt zero g h i le new old = elim old [ ]
EndsWithin-set nodes at node lt (suc f) g zero i le new old = absurd (omega arith)
EndsWithin-set nodes at node lt (suc f) g (suc h) i le new old =
    elim (ℕ_discrete i at) as (λ _. EndsWithin (set nodes at node) (suc h) i) [
      | yes e ↦ subst (λ (j : ℕ). EndsWithin (set nodes at node) (suc h) j) (sym e)
          (subst (λ (n : Node). Each (EndsWithin (set nodes at node) h) (below n)) (sym (node_at-set_same nodes at node lt))
          (Each-map (EndsWithin (set nodes at node) g) (EndsWithin (set nodes at node) h) (λ k. EndsWithin-more (set nodes at node) g h k (omega arith)) (below node) new))
      | no ne ↦ subst (λ (n : Node). Each (EndsWithin (set nodes at node) h) (below n)) (sym (node_at-set_other nodes at i node ne))
          (Each-map (EndsWithin nodes f) (EndsWithin (set nodes at node) h) (λ k w. EndsWithin-set nodes at node lt f g h k (omega arith) new w) (below (node_at nodes i)) old)
    ]

pub Each-set : (P : ℕ → Type 0) (nodes : List Node) (at : ℕ) (node : Node) → at < length nodes → Each P (below node) →
    ((i : ℕ) → Each P (below (node_at nodes i))) → (i : ℕ) → Each P (below (node_at (set nodes at node) i))
Each-set P nodes at node lt p h i =
    elim (ℕ_discrete i at) as (λ _. Each P (below (node_at (set nodes at node) i))) [
      | yes e ↦ subst (λ (j : ℕ). Each P (below (node_at (set nodes at node) j))) (sym e)
          (subst (λ (n : Node). Each P (below n)) (sym (node_at-set_same nodes at node lt)) p)
      | no ne ↦ subst (λ (n : Node). Each P (below n)) (sym (node_at-set_other nodes at i node ne)) (h i)
    ]

-- what doesn't stand below the parts of a new node may be replaced by it
pub sound-set : (nodes : List Node) (n at : ℕ) (node : Node) → IsSound nodes (doubled n) → at < length nodes →
    Each (IsBelow (length nodes)) (below node) → Each (λ k. StandsIn nodes at k → ⊥) (below node) → IsSound (set nodes at node) (doubled (suc n))
sound-set nodes n at node sound lt inside apart = record {
  deep = λ i. EndsWithin-set nodes at node lt (doubled n) (doubled n) (doubled n + doubled n) i (omega arith)
      (Each-map (λ k. StandsIn nodes at k → ⊥) (EndsWithin (set nodes at node) (doubled n)) (λ k a. EndsWithin-apart nodes at node (doubled n) k a (sound.deep k)) (below node) apart)
      (sound.deep i);
  inside = λ i. rw length-set (Each-set (IsBelow (length nodes)) nodes at node lt inside sound.inside i);
  small = rw length-set sound.small;
}

-- a new term --

pub EndsWithin-pushed : (nodes : List Node) (node : Node) → ((i : ℕ) → Each (IsBelow (length nodes)) (below (node_at nodes i))) →
    (f i : ℕ) → i < length nodes → EndsWithin nodes f i → EndsWithin (nodes ++ node ∷ []) f i
EndsWithin-pushed nodes node inside zero i lt h = elim h [ ]
EndsWithin-pushed nodes node inside (suc f) i lt h =
    subst (λ (n : Node). Each (EndsWithin (nodes ++ node ∷ []) f) (below n)) (sym (get_or-append nodes (node ∷ []) (End (shape.Variable Plain)) i lt))
    (Each-map_among (EndsWithin nodes f) (EndsWithin (nodes ++ node ∷ []) f) (below (node_at nodes i))
    (λ k m. EndsWithin-pushed nodes node inside f k (Each-at (IsBelow (length nodes)) (below (node_at nodes i)) k (inside i) m)) h)

pub node_at-old : (nodes : List Node) (node : Node) (i : ℕ) → i < length nodes → node_at (nodes ++ node ∷ []) i ≡ node_at nodes i
node_at-old nodes node i lt = get_or-append nodes (node ∷ []) (End (shape.Variable Plain)) i lt

pub node_at-new : (nodes : List Node) (node : Node) → node_at (nodes ++ node ∷ []) (length nodes) ≡ node
node_at-new nodes node = get_or-append_seam nodes node [] (End (shape.Variable Plain))

pub node_at-past : (nodes : List Node) (i : ℕ) → length nodes ≤ i → node_at nodes i ≡ End (shape.Variable Plain)
node_at-past nodes i le = get_or_past nodes i (End (shape.Variable Plain)) le

-- a claim on the nodes with a new one, by its place
pub by_place : (P : ℕ → Node → Type 0) (nodes : List Node) (node : Node) →
    ((i : ℕ) → i < length nodes → P i (node_at nodes i)) → P (length nodes) node → ((i : ℕ) → P i (End (shape.Variable Plain))) →
    (i : ℕ) → P i (node_at (nodes ++ node ∷ []) i)
by_place P nodes node old new past i =
    elim (dec_lt i (length nodes)) as (λ _. P i (node_at (nodes ++ node ∷ []) i)) [
      | yes lt ↦ subst (P i) (sym (node_at-old nodes node i lt)) (old i lt)
      | no ge ↦ elim (ℕ_discrete i (length nodes)) as (λ _. P i (node_at (nodes ++ node ∷ []) i)) [
        | yes e ↦ subst (λ (j : ℕ). P j (node_at (nodes ++ node ∷ []) j)) (sym e) (subst (P (length nodes)) (sym (node_at-new nodes node)) new)
        | no ne ↦ subst (P i) (sym (node_at-past (nodes ++ node ∷ []) i (simp length-append (omega arith)))) (past i)
      ]
    ]

pub one-le-doubled : (n : ℕ) → 1 ≤ doubled n
one-le-doubled zero = omega arith
one-le-doubled (suc n) = omega (arith, one-le-doubled n)

before : (n : ℕ) → 1 ≤ n → (m : ℕ) × (n ≡ suc m)
before zero le = absurd (omega arith)
before (suc m) le = (m, refl)

pub sound-pushed : (nodes : List Node) (n : ℕ) (node : Node) → IsSound nodes (doubled n) → length nodes + 1 < 2 ^ 32 →
    Each (IsBelow (length nodes)) (below node) → IsSound (nodes ++ node ∷ []) (doubled (suc n))
sound-pushed nodes n node sound small new = record {
  deep = deep;
  inside = by_place (λ _ nd. Each (IsBelow (length (nodes ++ node ∷ []))) (below nd)) nodes node
      (λ i lt. Each-map (IsBelow (length nodes)) (IsBelow (length (nodes ++ node ∷ []))) wider (below (node_at nodes i)) (sound.inside i))
      (Each-map (IsBelow (length nodes)) (IsBelow (length (nodes ++ node ∷ []))) wider (below node) new)
      (λ _. tt);
  small = simp length-append (omega arith);
}
  where
    wider : (k : ℕ) → k < length nodes → k < length (nodes ++ node ∷ [])
    wider k lt = simp length-append (omega arith)

    old : (i : ℕ) → i < length nodes → EndsWithin (nodes ++ node ∷ []) (doubled n) i
    old i lt = EndsWithin-pushed nodes node sound.inside (doubled n) i lt (sound.deep i)

    step : (i f : ℕ) → doubled n + doubled n ≡ suc f → EndsWithin (nodes ++ node ∷ []) (suc f) i
    step i f e = by_place (λ _ nd. Each (EndsWithin (nodes ++ node ∷ []) f) (below nd)) nodes node
        (λ j lt. Each-map_among (IsBelow (length nodes)) (EndsWithin (nodes ++ node ∷ []) f) (below (node_at nodes j)) (λ k m le. EndsWithin-more (nodes ++ node ∷ []) (doubled n) f k (omega (arith, one-le-doubled n)) (old k le)) (sound.inside j))
        (Each-map (IsBelow (length nodes)) (EndsWithin (nodes ++ node ∷ []) f) (λ k le. EndsWithin-more (nodes ++ node ∷ []) (doubled n) f k (omega (arith, one-le-doubled n)) (old k le)) (below node) new)
        (λ _. tt)
        i

    deep : (i : ℕ) → EndsWithin (nodes ++ node ∷ []) (doubled n + doubled n) i
    deep i =
        let p = before (doubled n + doubled n) (omega (arith, one-le-doubled n)) in
        subst (λ (g : ℕ). EndsWithin (nodes ++ node ∷ []) g i) (sym p.1) (step i p.0 p.1)

-- the same nodes may always be deeper
pub sound-more : (nodes : List Node) (n : ℕ) → IsSound nodes (doubled n) → IsSound nodes (doubled (suc n))
sound-more nodes n sound = record {
  deep = λ i. EndsWithin-more nodes (doubled n) (doubled n + doubled n) i (omega arith) (sound.deep i);
  inside = sound.inside;
  small = sound.small;
}

pub sound-empty : IsSound [] 1
sound-empty = record { deep = λ _. tt; inside = λ _. tt; small = lit< tt }

pub sound-present : (store : List State) → AreSound store → IsSound (nodes_of store) (doubled (length store))
sound-present [] h = sound-empty
sound-present (present ∷ earlier) h = h.0

pub notes-present : (store : List State) → AreSound store → AreNotesBelow (length (nodes_of store)) (notes_of store)
notes-present [] h = tt
notes-present (present ∷ earlier) h = h.1

pub notes-wider : (n m : ℕ) → n ≤ m → (notes : List (ℕ × ℕ)) → AreNotesBelow n notes → AreNotesBelow m notes
notes-wider n m le [] h = tt
notes-wider n m le (note ∷ notes) h = (omega (arith, le, h.0), omega (arith, le, h.1), notes-wider n m le notes h.2)

pub notes-more : (n : ℕ) (notes : List (ℕ × ℕ)) (note : ℕ × ℕ) → AreNotesBelow n notes → note.0 < n → note.1 < n → AreNotesBelow n (notes ++ note ∷ [])
notes-more n [] note h a b = (a, b, tt)
notes-more n (m ∷ notes) note h a b = (h.0, h.1, notes-more n notes note h.2 a b)

-- in a sound store what stands directly in a term is lighter --

pub weight-part : (store : List State) (i k : ℕ) → IsSound (nodes_of store) (doubled (length store)) → Among k (below (node_at (nodes_of store) i)) → weight store k < weight store i
weight-part store i k sound m = size-part (nodes_of store) (doubled (length store)) i k (sound.deep i) m

pub weight-parts : (store : List State) (i : ℕ) (shape : Shape) → IsSound (nodes_of store) (doubled (length store)) → node_at (nodes_of store) i ≡ End shape →
    weight store i ≡ suc (sum_of (weight store) (parts shape))
weight-parts store i shape sound e =
    subst (λ (n : Node). weight store i ≡ suc (sum_of (weight store) (below n))) e (size-below (nodes_of store) (doubled (length store)) i (sound.deep i))

pub weight-link : (store : List State) (i to : ℕ) → IsSound (nodes_of store) (doubled (length store)) → node_at (nodes_of store) i ≡ Link to → weight store to < weight store i
weight-link store i to sound e = weight-part store i to sound (subst (λ (n : Node). Among to (below n)) (sym e) (inl refl))

pub inside-link : (nodes : List Node) (i to n : ℕ) → IsSound nodes n → node_at nodes i ≡ Link to → to < length nodes
inside-link nodes i to n sound e =
    let h = subst (λ (nd : Node). Each (IsBelow (length nodes)) (below nd)) e (sound.inside i) in
    h.0

-- links --

pub links-on : (nodes : List Node) (end next at : ℕ) → LinksTo nodes end at → node_at nodes end ≡ Link next → LinksTo nodes next at
links-on nodes end next _ (itself) e = further end next e itself
links-on nodes end next _ (further i j f r) e = further i j f (links-on nodes end next j r e)

-- where links end nothing else is led to
pub links-end : (nodes : List Node) (end at : ℕ) → LinksTo nodes end at → (IsLink (node_at nodes at) → ⊥) → at ≡ end
links-end nodes end _ (itself) h = refl
links-end nodes end _ (further i j f r) h = absurd (h (subst IsLink (sym f) tt))
