-- A sound store whose rests may be records has a solution.
use Rattle.std.proofs.Common.{◌≡◌, ℕ, zero, suc, ◌<◌, List, ◌⊎◌, length, refl, sym, ◌∙◌, ap, subst, arith, inl, inr, Some, None}
use native.Mathlib.Decide.{ℕ_discrete}
use Rattle.elm_typing.specs.declared.flag.Flag.TheVariants.{Plain, Comparable, Appendable, Both}
use Rattle.elm_typing.specs.Ground.{Ground, Named, Record, Opaque, NoGrounds, Ends}
use Rattle.elm_typing.specs.Names.{string_name}
use Rattle.elm_typing.specs.Ordered.{InOrder}
use Rattle.type_terms.specs.declared.node.Node.{Node}
use Rattle.type_terms.specs.declared.node.Node.TheVariants.{End, Link}
use Rattle.type_terms.specs.declared.shape.Shape.TheVariants as shape
use Rattle.type_terms.specs.Terms.{node_at, below, Each, IsLink, IsRest, LinksTo, itself, further}
use Rattle.type_terms.specs.Solutions.{Assignment, Solves, FitsNode, MayBeRest, AllowsChoice, IsAsChosen}
use Rattle.type_terms.specs.Depth.{EndsWithin, IsSound}
use Rattle.type_terms.proofs.Composed.{LeafFits, RestType, IsRecord, node_type, leaf-fits, rest-type, composed, composed-is, composed-solves}
use Rattle.type_terms.proofs.Pushed.{inside-other}
use Rattle.type_terms.proofs.Solved.{links-same}
use Rattle.type_terms.proofs.Sound.{links-end}

-- links end
links-reach : (nodes : List Node) (f i : ℕ) (node : Node) → node_at nodes i ≡ node → EndsWithin nodes f i → (end : ℕ) × LinksTo nodes end i × (IsLink (node_at nodes end) → ⊥)
links-reach nodes zero i node e h = elim h [ ]
links-reach nodes (suc f) i (End form) e h = (i, itself, λ l. subst IsLink e l)
links-reach nodes (suc f) i (Link next) e h =
    let ends = subst (λ (n : Node). Each (EndsWithin nodes f) (below n)) e h in
    let r = links-reach nodes f next (node_at nodes next) refl ends.0 in
    (r.0, further i next e r.1, r.2)

-- and in one place
links-next : (nodes : List Node) (other i next : ℕ) → LinksTo nodes other i → (IsLink (node_at nodes other) → ⊥) → node_at nodes i ≡ Link next → LinksTo nodes other next
links-next nodes other _ next (itself) not e = absurd (not (subst IsLink (sym e) tt))
links-next nodes other _ next (further i after f r) not e = let same : after ≡ next = cc (e, f) in subst (LinksTo nodes other) same r

pub links-meet : (nodes : List Node) (end other i : ℕ) → LinksTo nodes end i → LinksTo nodes other i → (IsLink (node_at nodes end) → ⊥) → (IsLink (node_at nodes other) → ⊥) → end ≡ other
links-meet nodes end other _ (itself) q a b = links-end nodes other end q a
links-meet nodes end other _ (further i next e r) q a b = links-meet nodes end other next r (links-next nodes other i next q b e) a b

-- whether a row has the term as its rest
row-tells : (nodes : List Node) (bound : ℕ) → IsSound nodes bound → (i : ℕ) → (IsLink (node_at nodes i) → ⊥) → (k : ℕ) (node : Node) → node_at nodes k ≡ node →
    IsRest nodes i ⊎ ((h : IsRest nodes i) → h.row ≡ k → ⊥)
row-tells nodes bound sound i not k (End (shape.Row fields (Some rest))) e =
    let end = links-reach nodes bound rest (node_at nodes rest) refl (sound.deep rest) in
    elim (ℕ_discrete end.0 i) as (λ _. IsRest nodes i ⊎ ((h : IsRest nodes i) → h.row ≡ k → ⊥)) [
      | yes same ↦ inl (record { row = k; fields = fields; rest = rest; stands = e; leads = subst (λ (j : ℕ). LinksTo nodes j rest) same end.1 })
      | no ne ↦ inr (λ h is.
          let r : h.rest ≡ rest = rest-is fields h.fields rest h.rest (sym e ∙ ap (node_at nodes) (sym is) ∙ h.stands) in
          ne (links-meet nodes end.0 i rest end.1 (subst (LinksTo nodes i) r h.leads) end.2 not))
    ]
  where
    rest-is : (fs gs : List (List ℕ × ℕ)) (r q : ℕ) → End (shape.Row fs (Some r)) ≡ End (shape.Row gs (Some q)) → q ≡ r
    rest-is fs gs r q e = cc e
row-tells nodes bound sound i not k (End (shape.Row fields None)) e = inr (λ h is. let f = sym e ∙ ap (node_at nodes) (sym is) ∙ h.stands in cc f)
row-tells nodes bound sound i not k (End (shape.Variable flag)) e = inr (λ h is. let f = sym e ∙ ap (node_at nodes) (sym is) ∙ h.stands in cc f)
row-tells nodes bound sound i not k (End (shape.Opaque number flag)) e = inr (λ h is. let f = sym e ∙ ap (node_at nodes) (sym is) ∙ h.stands in cc f)
row-tells nodes bound sound i not k (End (shape.Named name arguments)) e = inr (λ h is. let f = sym e ∙ ap (node_at nodes) (sym is) ∙ h.stands in cc f)
row-tells nodes bound sound i not k (End (shape.Arrow from to)) e = inr (λ h is. let f = sym e ∙ ap (node_at nodes) (sym is) ∙ h.stands in cc f)
row-tells nodes bound sound i not k (End (shape.Tuple ps)) e = inr (λ h is. let f = sym e ∙ ap (node_at nodes) (sym is) ∙ h.stands in cc f)
row-tells nodes bound sound i not k (Link j) e = inr (λ h is. let f = sym e ∙ ap (node_at nodes) (sym is) ∙ h.stands in cc f)

rows-tell : (nodes : List Node) (bound : ℕ) → IsSound nodes bound → (i : ℕ) → (IsLink (node_at nodes i) → ⊥) → (n : ℕ) → IsRest nodes i ⊎ ((h : IsRest nodes i) → h.row < n → ⊥)
rows-tell nodes bound sound i not zero = inr (λ h lt. absurd (omega (arith, lt)))
rows-tell nodes bound sound i not (suc n) =
    elim (row-tells nodes bound sound i not n (node_at nodes n) refl) as (λ _. IsRest nodes i ⊎ ((h : IsRest nodes i) → h.row < suc n → ⊥)) [
      | inl h ↦ inl h
      | inr here ↦ elim (rows-tell nodes bound sound i not n) as (λ _. IsRest nodes i ⊎ ((h : IsRest nodes i) → h.row < suc n → ⊥)) [
        | inl h ↦ inl h
        | inr before ↦ inr (λ h lt. elim (ℕ_discrete h.row n) as (λ _. ⊥) [ yes is ↦ here h is | no ne ↦ before h (omega (arith, lt, ne)) ])
      ]
    ]

pub rest-tells : (nodes : List Node) (bound : ℕ) → IsSound nodes bound → (i : ℕ) → (IsLink (node_at nodes i) → ⊥) → IsRest nodes i ⊎ (IsRest nodes i → ⊥)
rest-tells nodes bound sound i not =
    elim (rows-tell nodes bound sound i not (length nodes)) as (λ _. IsRest nodes i ⊎ (IsRest nodes i → ⊥)) [
      | inl h ↦ inl h
      | inr none ↦ inr (λ h. none h (inside-other nodes h.row (End (shape.Row h.fields (Some h.rest))) (λ v. v) h.stands))
    ]

-- a type for a variable or an opaque type
record Leaf (nodes : List Node) (i : ℕ) (node : Node) : Type 0 where
  type : Ground
  order : InOrder type
  fits : LeafFits (IsRest nodes i) type node
  rest : IsRest nodes i → RestType type node

string : Ground
string = Named string_name NoGrounds

leaf : (nodes : List Node) (bound : ℕ) → IsSound nodes bound → (i : ℕ) (node : Node) → node_at nodes i ≡ node → (IsRest nodes i → MayBeRest node) → Leaf nodes i node
unfolding string
leaf nodes bound sound i (Link j) e may = record { type = string; order = tt; fits = tt; rest = λ _. tt }
leaf nodes bound sound i (End (shape.Variable Plain)) e may = record { type = Record (Ends None); order = tt; fits = tt; rest = λ _. (Ends None, refl) }
leaf nodes bound sound i (End (shape.Variable Comparable)) e may = record { type = string; order = tt; fits = inr (inr refl); rest = λ r. absurd (may r) }
leaf nodes bound sound i (End (shape.Variable Appendable)) e may = record { type = string; order = tt; fits = refl; rest = λ r. absurd (may r) }
leaf nodes bound sound i (End (shape.Variable Both)) e may = record { type = string; order = tt; fits = (inr (inr refl), refl); rest = λ r. absurd (may r) }
leaf nodes bound sound i (End (shape.Opaque number flag)) e may =
    elim (rest-tells nodes bound sound i (λ l. subst IsLink e l)) as (λ _. Leaf nodes i (End (shape.Opaque number flag))) [
      | inl r ↦ record { type = Record (Ends (Some number)); order = tt; fits = (λ _. refl, λ not. absurd (not r)); rest = λ _. (Ends (Some number), refl) }
      | inr not ↦ record { type = Opaque number flag; order = tt; fits = (λ r. absurd (not r), λ _. refl); rest = λ r. absurd (not r) }
    ]
leaf nodes bound sound i (End (shape.Named name arguments)) e may = record { type = string; order = tt; fits = tt; rest = λ r. absurd (may r) }
leaf nodes bound sound i (End (shape.Arrow from to)) e may = record { type = string; order = tt; fits = tt; rest = λ r. absurd (may r) }
leaf nodes bound sound i (End (shape.Tuple ps)) e may = record { type = string; order = tt; fits = tt; rest = λ r. absurd (may r) }
leaf nodes bound sound i (End (shape.Row fields rest)) e may = record { type = string; order = tt; fits = tt; rest = λ _. tt }

pub solution-exists : (nodes : List Node) (bound : ℕ) → IsSound nodes bound → ((i : ℕ) → IsRest nodes i → MayBeRest (node_at nodes i)) → (s : Assignment) × Solves nodes s
solution-exists nodes bound sound may =
    let at = λ (i : ℕ). leaf nodes bound sound i (node_at nodes i) refl (may i) in
    let chosen = λ (i : ℕ). (at i).type in
    (composed nodes chosen bound, composed-solves nodes chosen bound sound.deep (λ i. (at i).order) (λ i. (at i).fits) (λ i r. (at i).rest r))

-- unflagged variables are free --

pub solved-record : (nodes : List Node) (s : Assignment) (i : ℕ) → Solves nodes s → IsRest nodes i → IsRecord (s i)
solved-record nodes s i h rest =
    let f = subst (FitsNode (IsRest nodes rest.row) s (s rest.row)) rest.stands (h.fits rest.row) in
    (f.0, sym (links-same nodes s i rest.rest h rest.leads) ∙ f.1)

-- the type of one solution, or the one that is chosen
record FreeLeaf (nodes : List Node) (choice : Assignment) (i : ℕ) (node : Node) : Type 0 where
  type : Ground
  order : InOrder type
  fits : LeafFits (IsRest nodes i) type node
  rest : IsRest nodes i → RestType type node
  free : node ≡ End (shape.Variable Plain) → (IsRest nodes i → ⊥) → type ≡ choice i

kept_leaf : (nodes : List Node) (one choice : Assignment) → Solves nodes one → (i : ℕ) (node : Node) → node_at nodes i ≡ node → ((node ≡ End (shape.Variable Plain)) → (IsRest nodes i → ⊥) → ⊥) → FreeLeaf nodes choice i node
kept_leaf nodes one choice solves i node e not = record {
  type = one i;
  order = solves.in_order i;
  fits = leaf-fits (IsRest nodes i) one (one i) node (subst (FitsNode (IsRest nodes i) one (one i)) e (solves.fits i));
  rest = λ r. rest-type (IsRest nodes i) one (one i) node (subst (FitsNode (IsRest nodes i) one (one i)) e (solves.fits i)) (solved-record nodes one i solves r);
  free = λ f r. absurd (not f r);
}

free_leaf : (nodes : List Node) (bound : ℕ) (one choice : Assignment) → IsSound nodes bound → Solves nodes one → ((i : ℕ) → InOrder (choice i)) → (i : ℕ) (node : Node) → node_at nodes i ≡ node → FreeLeaf nodes choice i node
free_leaf nodes bound one choice sound solves order i (End (shape.Variable Plain)) e =
    elim (rest-tells nodes bound sound i (λ l. subst IsLink e l)) as (λ _. FreeLeaf nodes choice i (End (shape.Variable Plain))) [
      | inl r ↦ kept_leaf nodes one choice solves i (End (shape.Variable Plain)) e (λ _ not. not r)
      | inr not ↦ record { type = choice i; order = order i; fits = tt; rest = λ r. absurd (not r); free = λ _ _. refl }
    ]
free_leaf nodes bound one choice sound solves order i (End (shape.Variable Comparable)) e = kept_leaf nodes one choice solves i (End (shape.Variable Comparable)) e (λ f _. cc f)
free_leaf nodes bound one choice sound solves order i (End (shape.Variable Appendable)) e = kept_leaf nodes one choice solves i (End (shape.Variable Appendable)) e (λ f _. cc f)
free_leaf nodes bound one choice sound solves order i (End (shape.Variable Both)) e = kept_leaf nodes one choice solves i (End (shape.Variable Both)) e (λ f _. cc f)
free_leaf nodes bound one choice sound solves order i (End (shape.Opaque number flag)) e = kept_leaf nodes one choice solves i (End (shape.Opaque number flag)) e (λ f _. cc f)
free_leaf nodes bound one choice sound solves order i (End (shape.Named name arguments)) e = kept_leaf nodes one choice solves i (End (shape.Named name arguments)) e (λ f _. cc f)
free_leaf nodes bound one choice sound solves order i (End (shape.Arrow from to)) e = kept_leaf nodes one choice solves i (End (shape.Arrow from to)) e (λ f _. cc f)
free_leaf nodes bound one choice sound solves order i (End (shape.Tuple ps)) e = kept_leaf nodes one choice solves i (End (shape.Tuple ps)) e (λ f _. cc f)
free_leaf nodes bound one choice sound solves order i (End (shape.Row fields rest)) e = kept_leaf nodes one choice solves i (End (shape.Row fields rest)) e (λ f _. cc f)
free_leaf nodes bound one choice sound solves order i (Link to) e = kept_leaf nodes one choice solves i (Link to) e (λ f _. cc f)

pub variables-free : (nodes : List Node) (bound : ℕ) (one choice : Assignment) → IsSound nodes bound → Solves nodes one → ((i : ℕ) → InOrder (choice i)) →
    (s : Assignment) × Solves nodes s × ((i : ℕ) → node_at nodes i ≡ End (shape.Variable Plain) → (IsRest nodes i → ⊥) → s i ≡ choice i)
variables-free nodes bound one choice sound solves order =
    let at = λ (i : ℕ). free_leaf nodes bound one choice sound solves order i (node_at nodes i) refl in
    let chosen = λ (i : ℕ). (at i).type in (
      composed nodes chosen bound,
      composed-solves nodes chosen bound sound.deep (λ i. (at i).order) (λ i. (at i).fits) (λ i r. (at i).rest r),
      λ i e not.
          composed-is nodes chosen bound i (sound.deep i)
          ∙ ap (node_type (chosen i) (composed nodes chosen bound)) e
          ∙ (at i).free e not,
    )

-- each variable may be chosen --

-- of a variable the type that is chosen, and of all else that of one solution
record ChosenLeaf (nodes : List Node) (had choice : Ground) (i : ℕ) (node : Node) : Type 0 where
  type : Ground
  order : InOrder type
  fits : LeafFits (IsRest nodes i) type node
  rest : IsRest nodes i → RestType type node
  chosen : (t : Ground) (s : Assignment) → t ≡ node_type type s node → IsAsChosen had choice t node

had_leaf : (nodes : List Node) (one : Assignment) (choice : Ground) → Solves nodes one → (i : ℕ) (node : Node) → node_at nodes i ≡ node →
    ((t : Ground) (s : Assignment) → t ≡ node_type (one i) s node → IsAsChosen (one i) choice t node) → ChosenLeaf nodes (one i) choice i node
had_leaf nodes one choice solves i node e chosen = record {
  type = one i;
  order = solves.in_order i;
  fits = leaf-fits (IsRest nodes i) one (one i) node (subst (FitsNode (IsRest nodes i) one (one i)) e (solves.fits i));
  rest = λ r. rest-type (IsRest nodes i) one (one i) node (subst (FitsNode (IsRest nodes i) one (one i)) e (solves.fits i)) (solved-record nodes one i solves r);
  chosen = chosen;
}

chosen_leaf : (nodes : List Node) (one : Assignment) (choice : Ground) → Solves nodes one → InOrder choice → (i : ℕ) (node : Node) → node_at nodes i ≡ node →
    AllowsChoice nodes i choice node → ChosenLeaf nodes (one i) choice i node
chosen_leaf nodes one choice solves order i (End (shape.Variable flag)) e may =
    record { type = choice; order = order; fits = may.0; rest = λ r. may.1 r; chosen = λ t s is. is }
chosen_leaf nodes one choice solves order i (End (shape.Opaque number flag)) e may = had_leaf nodes one choice solves i (End (shape.Opaque number flag)) e (λ t s is. is)
chosen_leaf nodes one choice solves order i (End (shape.Named name arguments)) e may = had_leaf nodes one choice solves i (End (shape.Named name arguments)) e (λ t s is. tt)
chosen_leaf nodes one choice solves order i (End (shape.Arrow from to)) e may = had_leaf nodes one choice solves i (End (shape.Arrow from to)) e (λ t s is. tt)
chosen_leaf nodes one choice solves order i (End (shape.Tuple ps)) e may = had_leaf nodes one choice solves i (End (shape.Tuple ps)) e (λ t s is. tt)
chosen_leaf nodes one choice solves order i (End (shape.Row fields rest)) e may = had_leaf nodes one choice solves i (End (shape.Row fields rest)) e (λ t s is. tt)
chosen_leaf nodes one choice solves order i (Link to) e may = had_leaf nodes one choice solves i (Link to) e (λ t s is. tt)

pub variables-chosen : (nodes : List Node) (bound : ℕ) (one choice : Assignment) → IsSound nodes bound → Solves nodes one → ((i : ℕ) → InOrder (choice i)) →
    ((i : ℕ) → AllowsChoice nodes i (choice i) (node_at nodes i)) →
    (s : Assignment) × Solves nodes s × ((i : ℕ) → IsAsChosen (one i) (choice i) (s i) (node_at nodes i))
variables-chosen nodes bound one choice sound solves order may =
    let at = λ (i : ℕ). chosen_leaf nodes one (choice i) solves (order i) i (node_at nodes i) refl (may i) in
    let chosen = λ (i : ℕ). (at i).type in (
      composed nodes chosen bound,
      composed-solves nodes chosen bound sound.deep (λ i. (at i).order) (λ i. (at i).fits) (λ i r. (at i).rest r),
      λ i. (at i).chosen (composed nodes chosen bound i) (composed nodes chosen bound) (composed-is nodes chosen bound i (sound.deep i)),
    )
