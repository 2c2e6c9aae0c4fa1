-- A solution is composed from the types that variables and opaque types are given.
use Rattle.std.proofs.Common.{◌≡◌, ◌≢◌, ℕ, zero, suc, ◌≤◌, List, [], ◌∷◌, ◌⊎◌, refl, sym, ◌∙◌, ap, subst, arith, inl, inr, Some, None, if◌then◌else◌}
use Rattle.std.proofs.lemmas.Bool.Decides.{eqb_tells}
use Rattle.elm_typing.specs.Flags.{HasFlag}
use Rattle.elm_typing.specs.Ground.{Ground, Row, Named, Function, Tuple, Record, Opaque, Ends}
use Rattle.elm_typing.specs.Ordered.{InOrder, AllInOrder, RowInOrder}
use Rattle.elm_typing.specs.Rows.{extended_all}
use Rattle.elm_typing.proofs.RowMaps.{in_order-extended}
use Rattle.type_terms.specs.declared.node.Node.{Node}
use Rattle.type_terms.specs.declared.node.Node.TheVariants.{End, Link}
use Rattle.type_terms.specs.declared.shape.Shape.{Shape}
use Rattle.type_terms.specs.declared.shape.Shape.TheVariants as shape
use Rattle.type_terms.specs.Terms.{node_at, terms_of, below, Each, IsLink, IsVariable, LinksTo, itself, further, IsRest, StandsIn, here, within}
use Rattle.type_terms.specs.Solutions.{Assignment, Solves, FitsNode, types_of, fields_of, with_type}
use Rattle.type_terms.specs.Depth.{EndsWithin}
use Rattle.type_terms.proofs.Lists.{Each-map, Each-map_among}
use Rattle.type_terms.proofs.Sound.{links-on}

abbrev pub row_of : Ground → Row
row_of (Record row) = row
row_of _ = Ends None

-- the type of a shape whose parts have these types; a variable and an opaque type have the one that is chosen
abbrev pub shape_type : Ground → Assignment → Shape → Ground
shape_type chosen s (shape.Variable flag) = chosen
shape_type chosen s (shape.Opaque number flag) = chosen
shape_type chosen s (shape.Named name arguments) = Named name (types_of s arguments)
shape_type chosen s (shape.Arrow from to) = Function (s from) (s to)
shape_type chosen s (shape.Tuple ps) = Tuple (types_of s ps)
shape_type chosen s (shape.Row fields None) = Record (extended_all (fields_of s fields) (Ends None))
shape_type chosen s (shape.Row fields (Some rest)) = Record (extended_all (fields_of s fields) (row_of (s rest)))

abbrev pub node_type : Ground → Assignment → Node → Ground
node_type chosen s (Link to) = s to
node_type chosen s (End shape) = shape_type chosen s shape

abbrev pub composed : List Node → Assignment → ℕ → Assignment
composed nodes chosen zero i = chosen i
composed nodes chosen (suc steps) i = node_type (chosen i) (composed nodes chosen steps) (node_at nodes i)

abbrev pub Same : Assignment → Assignment → ℕ → Type 0
Same s r k = s k ≡ r k

pub types_of-same : (s r : Assignment) (ks : List ℕ) → Each (Same s r) ks → types_of s ks ≡ types_of r ks
types_of-same s r [] h = refl
types_of-same s r (k ∷ ks) h = cc (h.0, types_of-same s r ks h.1)

pub fields_of-same : (s r : Assignment) (fs : List (List ℕ × ℕ)) → Each (Same s r) (terms_of fs) → fields_of s fs ≡ fields_of r fs
fields_of-same s r [] h = refl
fields_of-same s r (f ∷ fs) h =
    ap (λ (t : Ground). (f.0, t) ∷ fields_of s fs) h.0 ∙ ap (λ (l : List (List ℕ × Ground)). (f.0, r f.1) ∷ l) (fields_of-same s r fs h.1)

pub node_type-same : (chosen : Ground) (s r : Assignment) (node : Node) → Each (Same s r) (below node) → node_type chosen s node ≡ node_type chosen r node
node_type-same chosen s r (Link to) h = h.0
node_type-same chosen s r (End (shape.Variable flag)) h = refl
node_type-same chosen s r (End (shape.Opaque number flag)) h = refl
node_type-same chosen s r (End (shape.Named name arguments)) h = ap (Named name) (types_of-same s r arguments h)
node_type-same chosen s r (End (shape.Arrow from to)) h = cc (h.0, h.1.0)
node_type-same chosen s r (End (shape.Tuple ps)) h = ap Tuple (types_of-same s r ps h)
node_type-same chosen s r (End (shape.Row fields None)) h = ap (λ (l : List (List ℕ × Ground)). Record (extended_all l (Ends None))) (fields_of-same s r fields h)
node_type-same chosen s r (End (shape.Row fields (Some rest))) h =
    ap (λ (l : List (List ℕ × Ground)). Record (extended_all l (row_of (s rest)))) (fields_of-same s r fields h.1)
    ∙ ap (λ (t : Ground). Record (extended_all (fields_of r fields) (row_of t))) h.0

pub composed-more : (nodes : List Node) (chosen : Assignment) (f g i : ℕ) → f ≤ g → EndsWithin nodes f i → composed nodes chosen f i ≡ composed nodes chosen g i
composed-more nodes chosen zero g i le h = elim h [ ]
composed-more nodes chosen (suc f) zero i le h = absurd (omega arith)
composed-more nodes chosen (suc f) (suc g) i le h =
    node_type-same (chosen i) (composed nodes chosen f) (composed nodes chosen g) (node_at nodes i)
    (Each-map (EndsWithin nodes f) (Same (composed nodes chosen f) (composed nodes chosen g)) (λ k. composed-more nodes chosen f g k (omega arith)) (below (node_at nodes i)) h)

pub composed-is : (nodes : List Node) (chosen : Assignment) (f i : ℕ) → EndsWithin nodes f i → composed nodes chosen f i ≡ node_type (chosen i) (composed nodes chosen f) (node_at nodes i)
composed-is nodes chosen zero i h = elim h [ ]
composed-is nodes chosen (suc f) i h =
    node_type-same (chosen i) (composed nodes chosen f) (composed nodes chosen (suc f)) (node_at nodes i)
    (Each-map (EndsWithin nodes f) (Same (composed nodes chosen f) (composed nodes chosen (suc f))) (λ k. composed-more nodes chosen f (suc f) k (omega arith)) (below (node_at nodes i)) h)

-- all its types are in order --

types-in_order : (s : Assignment) → ((k : ℕ) → InOrder (s k)) → (ks : List ℕ) → AllInOrder (types_of s ks)
types-in_order s h [] = tt
types-in_order s h (k ∷ ks) = (h k, types-in_order s h ks)

fields-in_order : (s : Assignment) → ((k : ℕ) → InOrder (s k)) → (fs : List (List ℕ × ℕ)) (row : Row) → RowInOrder row → RowInOrder (extended_all (fields_of s fs) row)
fields-in_order s h [] row r = r
fields-in_order s h (f ∷ fs) row r = in_order-extended f.0 (s f.1) (extended_all (fields_of s fs) row) (h f.1) (fields-in_order s h fs row r)

row_of-in_order : (t : Ground) → InOrder t → RowInOrder (row_of t)
row_of-in_order (Record row) h = h
row_of-in_order (Named name arguments) h = tt
row_of-in_order (Function a b) h = tt
row_of-in_order (Tuple ps) h = tt
row_of-in_order (Opaque number flag) h = tt

pub node_type-in_order : (chosen : Ground) (s : Assignment) (node : Node) → InOrder chosen → ((k : ℕ) → InOrder (s k)) → InOrder (node_type chosen s node)
node_type-in_order chosen s (Link to) c h = h to
node_type-in_order chosen s (End (shape.Variable flag)) c h = c
node_type-in_order chosen s (End (shape.Opaque number flag)) c h = c
node_type-in_order chosen s (End (shape.Named name arguments)) c h = types-in_order s h arguments
node_type-in_order chosen s (End (shape.Arrow from to)) c h = (h from, h to)
node_type-in_order chosen s (End (shape.Tuple ps)) c h = types-in_order s h ps
node_type-in_order chosen s (End (shape.Row fields None)) c h = fields-in_order s h fields (Ends None) tt
node_type-in_order chosen s (End (shape.Row fields (Some rest))) c h = fields-in_order s h fields (row_of (s rest)) (row_of-in_order (s rest) (h rest))

pub composed-in_order : (nodes : List Node) (chosen : Assignment) → ((i : ℕ) → InOrder (chosen i)) → (f i : ℕ) → InOrder (composed nodes chosen f i)
composed-in_order nodes chosen h zero i = h i
composed-in_order nodes chosen h (suc f) i = node_type-in_order (chosen i) (composed nodes chosen f) (node_at nodes i) (h i) (composed-in_order nodes chosen h f)

-- the rest of a row is a record --

abbrev pub IsRecord : Ground → Type 0
IsRecord t = (row : Row) × (t ≡ Record row)

-- what is chosen for the rest of a row is a record, where it counts
abbrev pub RestType : Ground → Node → Type 0
RestType chosen (Link to) = Unit {0}
RestType chosen (End (shape.Row fields rest)) = Unit {0}
RestType chosen (End (shape.Variable flag)) = IsRecord chosen
RestType chosen (End (shape.Opaque number flag)) = IsRecord chosen
RestType chosen _ = ⊥

pub rest-on : (nodes : List Node) (i next : ℕ) → node_at nodes i ≡ Link next → IsRest nodes i → IsRest nodes next
rest-on nodes i next e h = record { row = h.row; fields = h.fields; rest = h.rest; stands = h.stands; leads = links-on nodes i next h.rest h.leads e }

composed-record : (nodes : List Node) (chosen : Assignment) → ((i : ℕ) → IsRest nodes i → RestType (chosen i) (node_at nodes i)) →
    (f i : ℕ) (node : Node) → node_at nodes i ≡ node → IsRest nodes i → EndsWithin nodes f i → RestType (chosen i) node → IsRecord (node_type (chosen i) (composed nodes chosen f) node)
composed-record nodes chosen rests zero i node e rest h t = elim h [ ]
composed-record nodes chosen rests (suc f) i (Link to) e rest h t =
    let next = rest-on nodes i to e rest in
    let ends = subst (λ (n : Node). Each (EndsWithin nodes f) (below n)) e h in
    let r = composed-record nodes chosen rests f to (node_at nodes to) refl next ends.0 (rests to next) in
    (r.0, sym (composed-more nodes chosen f (suc f) to (omega arith) ends.0) ∙ composed-is nodes chosen f to ends.0 ∙ r.1)
composed-record nodes chosen rests (suc f) i (End (shape.Row fields None)) e rest h t = (extended_all (fields_of (composed nodes chosen (suc f)) fields) (Ends None), refl)
composed-record nodes chosen rests (suc f) i (End (shape.Row fields (Some r))) e rest h t =
    (extended_all (fields_of (composed nodes chosen (suc f)) fields) (row_of (composed nodes chosen (suc f) r)), refl)
composed-record nodes chosen rests (suc f) i (End (shape.Variable flag)) e rest h t = t
composed-record nodes chosen rests (suc f) i (End (shape.Opaque number flag)) e rest h t = t
composed-record nodes chosen rests (suc f) i (End (shape.Named name arguments)) e rest h t = absurd t
composed-record nodes chosen rests (suc f) i (End (shape.Arrow from to)) e rest h t = absurd t
composed-record nodes chosen rests (suc f) i (End (shape.Tuple ps)) e rest h t = absurd t

-- what is asked of the types of variables and opaque types
abbrev pub LeafFits : Type 0 → Ground → Node → Type 0
LeafFits Rest t (End (shape.Variable flag)) = HasFlag flag t
LeafFits Rest t (End (shape.Opaque number flag)) = (Rest → t ≡ Record (Ends (Some number))) × ((Rest → ⊥) → t ≡ Opaque number flag)
LeafFits Rest t _ = Unit {0}

node-fits : (Rest : Type 0) (s : Assignment) (t chosen : Ground) (node : Node) → t ≡ node_type chosen s node → LeafFits Rest chosen node →
    ((fields : List (List ℕ × ℕ)) (rest : ℕ) → node ≡ End (shape.Row fields (Some rest)) → IsRecord (s rest)) → FitsNode Rest s t node
node-fits Rest s t chosen (Link to) e leaf rests = e
node-fits Rest s t chosen (End (shape.Variable flag)) e leaf rests = subst (HasFlag flag) (sym e) leaf
node-fits Rest s t chosen (End (shape.Opaque number flag)) e leaf rests = (λ r. e ∙ leaf.0 r, λ n. e ∙ leaf.1 n)
node-fits Rest s t chosen (End (shape.Named name arguments)) e leaf rests = e
node-fits Rest s t chosen (End (shape.Arrow from to)) e leaf rests = e
node-fits Rest s t chosen (End (shape.Tuple ps)) e leaf rests = e
node-fits Rest s t chosen (End (shape.Row fields None)) e leaf rests = e
node-fits Rest s t chosen (End (shape.Row fields (Some rest))) e leaf rests =
    let q = rests fields rest refl in
    (q.0, q.1, e ∙ ap (λ (u : Ground). Record (extended_all (fields_of s fields) (row_of u))) q.1)

pub composed-solves : (nodes : List Node) (chosen : Assignment) (f : ℕ) → ((i : ℕ) → EndsWithin nodes f i) → ((i : ℕ) → InOrder (chosen i)) →
    ((i : ℕ) → LeafFits (IsRest nodes i) (chosen i) (node_at nodes i)) → ((i : ℕ) → IsRest nodes i → RestType (chosen i) (node_at nodes i)) → Solves nodes (composed nodes chosen f)
composed-solves nodes chosen f deep order leaves rests = record {
  in_order = composed-in_order nodes chosen order f;
  fits = λ i. node-fits (IsRest nodes i) (composed nodes chosen f) (composed nodes chosen f i) (chosen i) (node_at nodes i) (composed-is nodes chosen f i (deep i)) (leaves i)
      (λ fields rest e. is_record i fields rest e);
}
  where
    is_record : (i : ℕ) (fields : List (List ℕ × ℕ)) (rest : ℕ) → node_at nodes i ≡ End (shape.Row fields (Some rest)) → IsRecord (composed nodes chosen f rest)
    is_record i fields rest e =
        let is_rest : IsRest nodes rest = record { row = i; fields = fields; rest = rest; stands = e; leads = itself } in
        let r = composed-record nodes chosen rests f rest (node_at nodes rest) refl is_rest (deep rest) (rests rest is_rest) in
        (r.0, composed-is nodes chosen f rest (deep rest) ∙ r.1)

-- a solution is composed of its own types --

pub leaf-fits : (Rest : Type 0) (s : Assignment) (t : Ground) (node : Node) → FitsNode Rest s t node → LeafFits Rest t node
leaf-fits Rest s t (Link to) h = tt
leaf-fits Rest s t (End (shape.Variable flag)) h = h
leaf-fits Rest s t (End (shape.Opaque number flag)) h = h
leaf-fits Rest s t (End (shape.Named name arguments)) h = tt
leaf-fits Rest s t (End (shape.Arrow from to)) h = tt
leaf-fits Rest s t (End (shape.Tuple ps)) h = tt
leaf-fits Rest s t (End (shape.Row fields rest)) h = tt

pub fits-type : (Rest : Type 0) (s : Assignment) (t : Ground) (node : Node) → FitsNode Rest s t node → node_type t s node ≡ t
fits-type Rest s t (Link to) h = sym h
fits-type Rest s t (End (shape.Variable flag)) h = refl
fits-type Rest s t (End (shape.Opaque number flag)) h = refl
fits-type Rest s t (End (shape.Named name arguments)) h = sym h
fits-type Rest s t (End (shape.Arrow from to)) h = sym h
fits-type Rest s t (End (shape.Tuple ps)) h = sym h
fits-type Rest s t (End (shape.Row fields None)) h = sym h
fits-type Rest s t (End (shape.Row fields (Some rest))) h =
    ap (λ (u : Ground). Record (extended_all (fields_of s fields) (row_of u))) h.1 ∙ sym h.2

pub rest-type : (Rest : Type 0) (s : Assignment) (t : Ground) (node : Node) → FitsNode Rest s t node → IsRecord t → RestType t node
rest-type Rest s t (Link to) h r = tt
rest-type Rest s t (End (shape.Variable flag)) h r = r
rest-type Rest s t (End (shape.Opaque number flag)) h r = r
rest-type Rest s t (End (shape.Named name arguments)) h r = cc (h, r.1)
rest-type Rest s t (End (shape.Arrow from to)) h r = cc (h, r.1)
rest-type Rest s t (End (shape.Tuple ps)) h r = cc (h, r.1)
rest-type Rest s t (End (shape.Row fields rest)) h r = tt

-- the nodes but for one are respected
pub record SolvesBut (nodes : List Node) (at : ℕ) (s : Assignment) : Type 0 where
  pub in_order : (i : ℕ) → InOrder (s i)
  pub fits : (i : ℕ) → i ≢ at → FitsNode (IsRest nodes i) s (s i) (node_at nodes i)

pub but-same : (nodes : List Node) (at : ℕ) (s : Assignment) (end i : ℕ) → SolvesBut nodes at s → (IsLink (node_at nodes at) → ⊥) → LinksTo nodes end i → s i ≡ s end
but-same nodes at s end _ h not (itself) = refl
but-same nodes at s end _ h not (further i next e r) =
    let ne : i ≢ at = λ (same : i ≡ at). not (subst IsLink (sym e ∙ ap (node_at nodes) same) tt) in
    let f = subst (FitsNode (IsRest nodes i) s (s i)) e (h.fits i ne) in
    f ∙ but-same nodes at s end next h not r

pub but-record : (nodes : List Node) (at : ℕ) (s : Assignment) (i : ℕ) → SolvesBut nodes at s → IsVariable (node_at nodes at) → IsRest nodes i → IsRecord (s i)
but-record nodes at s i h variable rest =
    let ne : rest.row ≢ at = λ (same : rest.row ≡ at). subst IsVariable (ap (node_at nodes) (sym same) ∙ rest.stands) variable in
    let f = subst (FitsNode (IsRest nodes rest.row) s (s rest.row)) rest.stands (h.fits rest.row ne) in
    (f.0, sym (but-same nodes at s i rest.rest h (no_link (node_at nodes at) variable) rest.leads) ∙ f.1)
  where
    no_link : (node : Node) → IsVariable node → IsLink node → ⊥
    no_link (Link to) v l = v
    no_link (End shape) v l = l

-- where the one doesn't stand, the composed types are those of s
pub composed-apart : (nodes : List Node) (at : ℕ) (s chosen : Assignment) → SolvesBut nodes at s → ((k : ℕ) → k ≢ at → chosen k ≡ s k) →
    (f i : ℕ) → (StandsIn nodes at i → ⊥) → EndsWithin nodes f i → composed nodes chosen f i ≡ s i
composed-apart nodes at s chosen h same zero i apart ends = elim ends [ ]
composed-apart nodes at s chosen h same (suc f) i apart ends =
    let ne : i ≢ at = λ (e : i ≡ at). apart (subst (StandsIn nodes at) (sym e) here) in
    node_type-same (chosen i) (composed nodes chosen f) s (node_at nodes i)
    (Each-map_among (EndsWithin nodes f) (Same (composed nodes chosen f) s) (below (node_at nodes i))
    (λ k m. composed-apart nodes at s chosen h same f k (λ stands. apart (within i k m stands))) ends)
    ∙ ap (λ (t : Ground). node_type t s (node_at nodes i)) (same i ne)
    ∙ fits-type (IsRest nodes i) s (s i) (node_at nodes i) (h.fits i ne)

pub with-cases : (s : Assignment) (at : ℕ) (t : Ground) (i : ℕ) → ((i ≡ at) × (with_type s at t i ≡ t)) ⊎ ((i ≢ at) × (with_type s at t i ≡ s i))
with-cases s at t i =
    elim (eqb_tells i at) as (λ _. ((i ≡ at) × (with_type s at t i ≡ t)) ⊎ ((i ≢ at) × (with_type s at t i ≡ s i)))
    [ inl h ↦ inl (h.1, ap (λ b. if b then t else s i) h.0) | inr h ↦ inr (h.1, ap (λ b. if b then t else s i) h.0) ]

-- where there is a solution, what respects all nodes but an unlinked variable can be one on all in which it doesn't stand
pub solution-apart : (nodes : List Node) (at f : ℕ) (s one : Assignment) → ((i : ℕ) → EndsWithin nodes f i) → IsVariable (node_at nodes at) → SolvesBut nodes at s → Solves nodes one →
    (r : Assignment) × Solves nodes r × ((i : ℕ) → (StandsIn nodes at i → ⊥) → r i ≡ s i)
solution-apart nodes at f s one deep variable but solves =
    (composed nodes (with_type s at (one at)) f, composed-solves nodes (with_type s at (one at)) f deep order leaves rests, λ i apart. composed-apart nodes at s (with_type s at (one at)) but others f i apart (deep i))
  where
    others : (k : ℕ) → k ≢ at → with_type s at (one at) k ≡ s k
    others k ne = elim (with-cases s at (one at) k) as (λ _. with_type s at (one at) k ≡ s k) [ inl h ↦ absurd (ne h.0) | inr h ↦ h.1 ]

    by_case : (P : ℕ → Ground → Type 0) → P at (one at) → ((k : ℕ) → k ≢ at → P k (s k)) → (k : ℕ) → P k (with_type s at (one at) k)
    by_case P here_is there k = elim (with-cases s at (one at) k) as (λ _. P k (with_type s at (one at) k)) [
      | inl h ↦ subst (P k) (sym h.1) (subst (λ (j : ℕ). P j (one at)) (sym h.0) here_is)
      | inr h ↦ subst (P k) (sym h.1) (there k h.0)
    ]

    order : (i : ℕ) → InOrder (with_type s at (one at) i)
    order i = by_case (λ _ t. InOrder t) (solves.in_order at) (λ k _. but.in_order k) i

    leaves : (i : ℕ) → LeafFits (IsRest nodes i) (with_type s at (one at) i) (node_at nodes i)
    leaves i = by_case (λ k t. LeafFits (IsRest nodes k) t (node_at nodes k))
        (leaf-fits (IsRest nodes at) one (one at) (node_at nodes at) (solves.fits at))
        (λ k ne. leaf-fits (IsRest nodes k) s (s k) (node_at nodes k) (but.fits k ne)) i

    as_but : SolvesBut nodes at one
    as_but = record { in_order = solves.in_order; fits = λ i _. solves.fits i }

    rests : (i : ℕ) → IsRest nodes i → RestType (with_type s at (one at) i) (node_at nodes i)
    rests i = by_case (λ k t. IsRest nodes k → RestType t (node_at nodes k))
        (λ rest. rest-type (IsRest nodes at) one (one at) (node_at nodes at) (solves.fits at) (but-record nodes at one at as_but variable rest))
        (λ k ne rest. rest-type (IsRest nodes k) s (s k) (node_at nodes k) (but.fits k ne) (but-record nodes at s k but variable rest)) i
