-- A new term leaves the solutions that fit it.
use Rattle.std.proofs.Common.{◌≡◌, ◌↔◌, ℕ, ◌<◌, List, [], ◌∷◌, ◌++◌, ◌⊎◌, length, refl, sym, ◌∙◌, ap, subst, arith, inl, inr, length-append, Some, None}
use native.Mathlib.Decide.{dec_lt}
use Rattle.elm_typing.specs.Flags.{HasFlag}
use Rattle.elm_typing.specs.Ground.{Ground, Named, Tuple, Record, Ends}
use Rattle.elm_typing.specs.Ordered.{InOrder}
use Rattle.elm_typing.specs.Rows.{extended_all}
use Rattle.type_terms.specs.declared.node.Node.{Node}
use Rattle.type_terms.specs.declared.node.Node.TheVariants.{End, Link}
use Rattle.type_terms.specs.declared.shape.Shape.{Shape}
use Rattle.type_terms.specs.declared.shape.Shape.TheVariants as shape
use Rattle.type_terms.specs.Terms.{node_at, parts, below, Each, IsVariable, IsRest, LinksTo, itself, further}
use Rattle.type_terms.specs.Solutions.{Assignment, Solves, Fits, FitsNode, AddsNoRest, IsNoNewRest, with_type}
use Rattle.type_terms.specs.Depth.{IsBelow, IsSound}
use Rattle.type_terms.proofs.Lists.{Each-map}
use Rattle.type_terms.proofs.Sound.{node_at-old, node_at-new, node_at-past, by_place, inside-link}
use Rattle.type_terms.proofs.Solved.{FitsNode-rest, IsOpaque, IsRest-kept}
use Rattle.type_terms.proofs.Composed.{Same, types_of-same, fields_of-same, with-cases}

-- what is no unlinked variable stands in the store
pub inside-other : (nodes : List Node) (i : ℕ) (node : Node) → (IsVariable node → ⊥) → node_at nodes i ≡ node → i < length nodes
inside-other nodes i node not e =
    elim (dec_lt i (length nodes)) as (λ _. i < length nodes) [
      | yes lt ↦ lt
      | no ge ↦ absurd (not (subst IsVariable (sym (node_at-past nodes i (omega arith)) ∙ e) tt))
    ]

pub pushed-keeps : (nodes : List Node) (new node : Node) (i : ℕ) → (IsVariable node → ⊥) → node_at nodes i ≡ node → node_at (nodes ++ new ∷ []) i ≡ node
pushed-keeps nodes new node i not e = node_at-old nodes new i (inside-other nodes i node not e) ∙ e

-- what stands after the new term's making stood before, or is the new term
pub pushed-kept : (nodes : List Node) (new node : Node) (i : ℕ) → (IsVariable node → ⊥) → node_at (nodes ++ new ∷ []) i ≡ node → (node_at nodes i ≡ node) ⊎ ((i ≡ length nodes) × (new ≡ node))
pushed-kept nodes new node i not e =
    elim (dec_lt i (length nodes)) as (λ _. (node_at nodes i ≡ node) ⊎ ((i ≡ length nodes) × (new ≡ node))) [
      | yes lt ↦ inl (sym (node_at-old nodes new i lt) ∙ e)
      | no ge ↦ (let le : i < length (nodes ++ new ∷ []) = inside-other (nodes ++ new ∷ []) i node not e in
          let same : i ≡ length nodes = omega (arith, le, length-append nodes (new ∷ [])) in
          inr (same, sym (node_at-new nodes new) ∙ ap (node_at (nodes ++ new ∷ [])) (sym same) ∙ e))
    ]

pub links-pushed : (nodes : List Node) (form : Shape) (end i : ℕ) → LinksTo (nodes ++ End form ∷ []) end i → LinksTo nodes end i
links-pushed nodes form end _ (itself) = itself
links-pushed nodes form end _ (further i next e r) =
    elim (pushed-kept nodes (End form) (Link next) i (λ v. v) e) as (λ _. LinksTo nodes end i) [
      | inl f ↦ further i next f (links-pushed nodes form end next r)
      | inr g ↦ absurd (cc g.1)
    ]

pub rest-kept : (nodes : List Node) (new : Node) (i : ℕ) → IsRest nodes i → IsRest (nodes ++ new ∷ []) i
rest-kept nodes new i h =
    IsRest-kept nodes (nodes ++ new ∷ []) i
    (λ j next e. pushed-keeps nodes new (Link next) j (λ v. v) e)
    (λ j fields rest e. pushed-keeps nodes new (End (shape.Row fields (Some rest))) j (λ v. v) e) h

rest-pushed : (nodes : List Node) (form : Shape) (i : ℕ) → AddsNoRest nodes form → IsOpaque (node_at nodes i) → IsRest (nodes ++ End form ∷ []) i → IsRest nodes i
rest-pushed nodes form i adds opaque h =
    elim (pushed-kept nodes (End form) (End (shape.Row h.fields (Some h.rest))) h.row (λ v. v) h.stands) as (λ _. IsRest nodes i) [
      | inl e ↦ record { row = h.row; fields = h.fields; rest = h.rest; stands = e; leads = links-pushed nodes form i h.rest h.leads }
      | inr g ↦ was (node_at nodes i) refl opaque (subst (AddsNoRest nodes) (form-is g.1) adds) (links-pushed nodes form i h.rest h.leads)
    ]
  where
    form-is : End form ≡ End (shape.Row h.fields (Some h.rest)) → form ≡ shape.Row h.fields (Some h.rest)
    form-is e = cc e

    was : (node : Node) → node_at nodes i ≡ node → IsOpaque node → IsNoNewRest nodes h.rest → LinksTo nodes i h.rest → IsRest nodes i
    was (End (shape.Opaque number flag)) e o no_new leads = no_new i number flag leads e
    was (End (shape.Variable flag)) e o no_new leads = absurd o
    was (End (shape.Named name arguments)) e o no_new leads = absurd o
    was (End (shape.Arrow from to)) e o no_new leads = absurd o
    was (End (shape.Tuple ps)) e o no_new leads = absurd o
    was (End (shape.Row fields rest)) e o no_new leads = absurd o
    was (Link j) e o no_new leads = absurd o

pub links-inside : (nodes : List Node) (bound end i : ℕ) → IsSound nodes bound → LinksTo nodes end i → i < length nodes → end < length nodes
links-inside nodes bound end _ sound (itself) lt = lt
links-inside nodes bound end _ sound (further i next e r) lt = links-inside nodes bound end next sound r (inside-link nodes i next bound sound e)

-- no row has the new term as its rest
pub new-no_rest : (nodes : List Node) (bound : ℕ) (form : Shape) → IsSound nodes bound → Each (IsBelow (length nodes)) (parts form) → IsRest (nodes ++ End form ∷ []) (length nodes) → ⊥
new-no_rest nodes bound form sound inside h =
    let lt : h.rest < length nodes = rest-inside in
    let back = links-inside nodes bound (length nodes) h.rest sound (links-pushed nodes form (length nodes) h.rest h.leads) lt in
    omega (arith, back)
  where
    first : (node : Node) → node ≡ End (shape.Row h.fields (Some h.rest)) → Each (IsBelow (length nodes)) (below node) → h.rest < length nodes
    first node e each = (subst (λ (n : Node). Each (IsBelow (length nodes)) (below n)) e each).0

    rest-inside : h.rest < length nodes
    rest-inside =
        elim (pushed-kept nodes (End form) (End (shape.Row h.fields (Some h.rest))) h.row (λ v. v) h.stands) as (λ _. h.rest < length nodes) [
          | inl e ↦ first (node_at nodes h.row) e (sound.inside h.row)
          | inr g ↦ first (End form) g.1 inside
        ]

FitsNode-same : (Rest : Type 0) (s r : Assignment) (t u : Ground) (node : Node) → Each (Same s r) (below node) → t ≡ u → FitsNode Rest s t node → FitsNode Rest r u node
FitsNode-same Rest s r t u (Link to) same e h = sym e ∙ h ∙ same.0
FitsNode-same Rest s r t u (End (shape.Variable flag)) same e h = subst (HasFlag flag) e h
FitsNode-same Rest s r t u (End (shape.Opaque number flag)) same e h = (λ q. sym e ∙ h.0 q, λ n. sym e ∙ h.1 n)
FitsNode-same Rest s r t u (End (shape.Named name arguments)) same e h = sym e ∙ h ∙ ap (Named name) (types_of-same s r arguments same)
FitsNode-same Rest s r t u (End (shape.Arrow from to)) same e h = sym e ∙ h ∙ cc (same.0, same.1.0)
FitsNode-same Rest s r t u (End (shape.Tuple ps)) same e h = sym e ∙ h ∙ ap Tuple (types_of-same s r ps same)
FitsNode-same Rest s r t u (End (shape.Row fields None)) same e h =
    sym e ∙ h ∙ ap (λ (l : List (List ℕ × Ground)). Record (extended_all l (Ends None))) (fields_of-same s r fields same)
FitsNode-same Rest s r t u (End (shape.Row fields (Some rest))) same e h =
    (h.0, sym same.0 ∙ h.1, sym e ∙ h.2 ∙ ap (λ (l : List (List ℕ × Ground)). Record (extended_all l h.0)) (fields_of-same s r fields same.1))

pushed-back : (nodes : List Node) (bound : ℕ) (form : Shape) (s : Assignment) → IsSound nodes bound → Each (IsBelow (length nodes)) (parts form) → AddsNoRest nodes form →
    Solves nodes s → Fits ⊥ s (s (length nodes)) form → Solves (nodes ++ End form ∷ []) s
pushed-back nodes bound form s sound inside adds h fit = record {
  in_order = h.in_order;
  fits = by_place (λ i node. FitsNode (IsRest (nodes ++ End form ∷ []) i) s (s i) node) nodes (End form)
      (λ i lt. FitsNode-rest (IsRest nodes i) (IsRest (nodes ++ End form ∷ []) i) s (s i) (node_at nodes i)
      (λ _ r. rest-kept nodes (End form) i r) (λ opaque r. rest-pushed nodes form i adds opaque r) (h.fits i))
      (FitsNode-rest ⊥ (IsRest (nodes ++ End form ∷ []) (length nodes)) s (s (length nodes)) (End form)
      (λ _ r. absurd r) (λ _ r. new-no_rest nodes bound form sound inside r) fit)
      (λ _. tt);
}

pub solves-pushed : (nodes : List Node) (bound : ℕ) (form : Shape) (s : Assignment) → IsSound nodes bound → Each (IsBelow (length nodes)) (parts form) → AddsNoRest nodes form →
    Solves (nodes ++ End form ∷ []) s ↔ (Solves nodes s × Fits ⊥ s (s (length nodes)) form)
solves-pushed nodes bound form s sound inside adds = (forth, λ h. pushed-back nodes bound form s sound inside adds h.0 h.1)
  where
    forth : Solves (nodes ++ End form ∷ []) s → Solves nodes s × Fits ⊥ s (s (length nodes)) form
    forth h = (
      record {
        in_order = h.in_order;
        fits = λ i. elim (dec_lt i (length nodes)) as (λ _. FitsNode (IsRest nodes i) s (s i) (node_at nodes i)) [
          | yes lt ↦ FitsNode-rest (IsRest (nodes ++ End form ∷ []) i) (IsRest nodes i) s (s i) (node_at nodes i)
              (λ opaque r. rest-pushed nodes form i adds opaque r) (λ _ r. rest-kept nodes (End form) i r)
              (subst (FitsNode (IsRest (nodes ++ End form ∷ []) i) s (s i)) (node_at-old nodes (End form) i lt) (h.fits i))
          | no ge ↦ subst (FitsNode (IsRest nodes i) s (s i)) (sym (node_at-past nodes i (omega arith))) tt
        ];
      },
      FitsNode-rest (IsRest (nodes ++ End form ∷ []) (length nodes)) ⊥ s (s (length nodes)) (End form)
          (λ _ r. new-no_rest nodes bound form sound inside r) (λ _ r. absurd r)
          (subst (FitsNode (IsRest (nodes ++ End form ∷ []) (length nodes)) s (s (length nodes))) (node_at-new nodes (End form)) (h.fits (length nodes))),
    )

-- each solution goes on to each type that fits the new term
pub solves-extended : (nodes : List Node) (bound : ℕ) (form : Shape) (s : Assignment) (type : Ground) → IsSound nodes bound → Each (IsBelow (length nodes)) (parts form) → AddsNoRest nodes form →
    Solves nodes s → Fits ⊥ s type form → InOrder type → Solves (nodes ++ End form ∷ []) (with_type s (length nodes) type)
solves-extended nodes bound form s type sound inside adds h fit order =
    pushed-back nodes bound form (with_type s (length nodes) type) sound inside adds
    (record {
      in_order = λ i. elim (with-cases s (length nodes) type i) as (λ _. InOrder (with_type s (length nodes) type i))
          [ inl w ↦ subst InOrder (sym w.1) order | inr w ↦ subst InOrder (sym w.1) (h.in_order i) ];
      fits = λ i. elim (dec_lt i (length nodes)) as (λ _. FitsNode (IsRest nodes i) (with_type s (length nodes) type) (with_type s (length nodes) type i) (node_at nodes i)) [
        | yes lt ↦ FitsNode-same (IsRest nodes i) s (with_type s (length nodes) type) (s i) (with_type s (length nodes) type i) (node_at nodes i) (agrees (below (node_at nodes i)) (sound.inside i)) (below-same i lt) (h.fits i)
        | no ge ↦ subst (FitsNode (IsRest nodes i) (with_type s (length nodes) type) (with_type s (length nodes) type i)) (sym (node_at-past nodes i (omega arith))) tt
      ];
    })
    (FitsNode-same ⊥ s (with_type s (length nodes) type) type (with_type s (length nodes) type (length nodes)) (End form) (agrees (parts form) inside) at-new fit)
  where
    below-same : (k : ℕ) → k < length nodes → s k ≡ with_type s (length nodes) type k
    below-same k lt = elim (with-cases s (length nodes) type k) as (λ _. s k ≡ with_type s (length nodes) type k) [ inl w ↦ absurd (omega (arith, w.0)) | inr w ↦ sym w.1 ]

    agrees : (ks : List ℕ) → Each (IsBelow (length nodes)) ks → Each (Same s (with_type s (length nodes) type)) ks
    agrees ks each = Each-map (IsBelow (length nodes)) (Same s (with_type s (length nodes) type)) below-same ks each

    at-new : type ≡ with_type s (length nodes) type (length nodes)
    at-new = elim (with-cases s (length nodes) type (length nodes)) as (λ _. type ≡ with_type s (length nodes) type (length nodes)) [ inl w ↦ sym w.1 | inr w ↦ absurd (w.0 refl) ]
