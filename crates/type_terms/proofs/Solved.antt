-- What changes do to the solutions of a store.
use Rattle.std.proofs.Common.{◌≡◌, ◌≢◌, ◌↔◌, ℕ, ◌<◌, List, ◌⊎◌, length, refl, sym, ◌∙◌, ap, subst, inl, inr, set, Option, Some, None}
use native.Mathlib.Decide.{ℕ_discrete}
use Rattle.elm_typing.specs.declared.flag.Flag.{Flag}
use Rattle.elm_typing.specs.Flags.{HasFlag}
use Rattle.elm_typing.specs.Ground.{Ground}
use Rattle.type_terms.specs.declared.node.Node.{Node}
use Rattle.type_terms.specs.declared.node.Node.TheVariants.{End, Link}
use Rattle.type_terms.specs.declared.shape.Shape.TheVariants as shape
use Rattle.type_terms.specs.Terms.{node_at, below, Among, IsVariable, LinksTo, itself, further, IsRest, StandsIn, here, within}
use Rattle.type_terms.specs.Solutions.{Assignment, Solves, FitsNode, IsNoNewRest}
use Rattle.type_terms.proofs.Sound.{node_at-set_other, node_at-set_same}

-- a term and the one that links lead to have the same type
pub links-same : (nodes : List Node) (s : Assignment) (end at : ℕ) → Solves nodes s → LinksTo nodes end at → s at ≡ s end
links-same nodes s end _ h (itself) = refl
links-same nodes s end _ h (further i next e r) =
    let f = subst (FitsNode (IsRest nodes i) s (s i)) e (h.fits i) in f ∙ links-same nodes s end next h r

-- what a node asks, where it is the rest of a row in one sense exactly where it is in another --

abbrev pub IsOpaque : Node → Type 0
IsOpaque (End (shape.Opaque number flag)) = Unit {0}
IsOpaque _ = ⊥

pub FitsNode-rest : (P Q : Type 0) (s : Assignment) (type : Ground) (node : Node) → (IsOpaque node → P → Q) → (IsOpaque node → Q → P) → FitsNode P s type node → FitsNode Q s type node
FitsNode-rest P Q s type (Link to) f g h = h
FitsNode-rest P Q s type (End (shape.Variable flag)) f g h = h
FitsNode-rest P Q s type (End (shape.Opaque number flag)) f g h = (λ q. h.0 (g tt q), λ n. h.1 (λ p. n (f tt p)))
FitsNode-rest P Q s type (End (shape.Named name arguments)) f g h = h
FitsNode-rest P Q s type (End (shape.Arrow from to)) f g h = h
FitsNode-rest P Q s type (End (shape.Tuple ps)) f g h = h
FitsNode-rest P Q s type (End (shape.Row fields None)) f g h = h
FitsNode-rest P Q s type (End (shape.Row fields (Some rest))) f g h = h

-- links and rows that stay --

-- links of one list of nodes are links of another
abbrev pub KeepsLinks : List Node → List Node → Type 0
KeepsLinks nodes others = (i next : ℕ) → node_at nodes i ≡ Link next → node_at others i ≡ Link next

abbrev pub KeepsRows : List Node → List Node → Type 0
KeepsRows nodes others = (i : ℕ) (fields : List (List ℕ × ℕ)) (rest : ℕ) → node_at nodes i ≡ End (shape.Row fields (Some rest)) → node_at others i ≡ End (shape.Row fields (Some rest))

pub LinksTo-kept : (nodes others : List Node) (end i : ℕ) → KeepsLinks nodes others → LinksTo nodes end i → LinksTo others end i
LinksTo-kept nodes others end _ keeps (itself) = itself
LinksTo-kept nodes others end _ keeps (further i next e r) = further i next (keeps i next e) (LinksTo-kept nodes others end next keeps r)

pub IsRest-kept : (nodes others : List Node) (i : ℕ) → KeepsLinks nodes others → KeepsRows nodes others → IsRest nodes i → IsRest others i
IsRest-kept nodes others i links rows h =
    record { row = h.row; fields = h.fields; rest = h.rest; stands = rows h.row h.fields h.rest h.stands; leads = LinksTo-kept nodes others i h.rest links h.leads }

-- what is no variable stays where a variable is rewritten
pub set-keeps : (nodes : List Node) (at i : ℕ) (node other : Node) → IsVariable (node_at nodes at) → (IsVariable other → ⊥) → node_at nodes i ≡ other → node_at (set nodes at node) i ≡ other
set-keeps nodes at i node other variable not e =
    node_at-set_other nodes at i node (λ (same : i ≡ at). not (subst IsVariable (ap (node_at nodes) (sym same) ∙ e) variable)) ∙ e

-- and where a variable is written
pub kept-set : (nodes : List Node) (at i : ℕ) (node other : Node) → at < length nodes → (node ≡ other → ⊥) → node_at (set nodes at node) i ≡ other → (i ≢ at) × (node_at nodes i ≡ other)
kept-set nodes at i node other lt not e =
    let ne : i ≢ at = λ (same : i ≡ at). not (sym (node_at-set_same nodes at node lt) ∙ sym (ap (node_at (set nodes at node)) same) ∙ e) in
    (ne, sym (node_at-set_other nodes at i node ne) ∙ e)

pub links-kept : (nodes : List Node) (at : ℕ) (node : Node) → IsVariable (node_at nodes at) → KeepsLinks nodes (set nodes at node)
links-kept nodes at node variable i next e = set-keeps nodes at i node (Link next) variable (λ h. h) e

pub rows-kept : (nodes : List Node) (at : ℕ) (node : Node) → IsVariable (node_at nodes at) → KeepsRows nodes (set nodes at node)
rows-kept nodes at node variable i fields rest e = set-keeps nodes at i node (End (shape.Row fields (Some rest))) variable (λ h. h) e

-- a variable becomes another one --

not_link : (flag : Flag) (to : ℕ) → End (shape.Variable flag) ≡ Link to → ⊥
not_link flag to e = cc e

not_row : (flag : Flag) (fields : List (List ℕ × ℕ)) (rest : Option ℕ) → End (shape.Variable flag) ≡ End (shape.Row fields rest) → ⊥
not_row flag fields rest e = cc e

pub rest-narrowed : (nodes : List Node) (at i : ℕ) (flag : Flag) → at < length nodes → IsRest (set nodes at (End (shape.Variable flag))) i → IsRest nodes i
rest-narrowed nodes at i flag lt h =
    IsRest-kept (set nodes at (End (shape.Variable flag))) nodes i
    (λ j next e. (kept-set nodes at j (End (shape.Variable flag)) (Link next) lt (not_link flag next) e).1)
    (λ j fields rest e. (kept-set nodes at j (End (shape.Variable flag)) (End (shape.Row fields (Some rest))) lt (not_row flag fields (Some rest)) e).1) h

pub solves-narrowed : (nodes : List Node) (at : ℕ) (had flag new : Flag) (s : Assignment) → at < length nodes → node_at nodes at ≡ End (shape.Variable had) →
    ((type : Ground) → HasFlag new type ↔ (HasFlag had type × HasFlag flag type)) →
    Solves (set nodes at (End (shape.Variable new))) s ↔ (Solves nodes s × HasFlag flag (s at))
solves-narrowed nodes at had flag new s lt e both = (forth, back)
  where
    variable : IsVariable (node_at nodes at)
    variable = subst IsVariable (sym e) tt

    at_new : Solves (set nodes at (End (shape.Variable new))) s → HasFlag new (s at)
    at_new h = subst (FitsNode (IsRest (set nodes at (End (shape.Variable new))) at) s (s at)) (node_at-set_same nodes at (End (shape.Variable new)) lt) (h.fits at)

    forth : Solves (set nodes at (End (shape.Variable new))) s → Solves nodes s × HasFlag flag (s at)
    forth h = (
      record {
        in_order = h.in_order;
        fits = λ i. elim (ℕ_discrete i at) as (λ _. FitsNode (IsRest nodes i) s (s i) (node_at nodes i)) [
          | yes same ↦ subst (λ (j : ℕ). FitsNode (IsRest nodes j) s (s j) (node_at nodes j)) (sym same)
              (subst (FitsNode (IsRest nodes at) s (s at)) (sym e) ((both (s at)).0 (at_new h)).0)
          | no ne ↦ FitsNode-rest (IsRest (set nodes at (End (shape.Variable new))) i) (IsRest nodes i) s (s i) (node_at nodes i)
              (λ _ r. rest-narrowed nodes at i new lt r) (λ _ r. IsRest-kept nodes (set nodes at (End (shape.Variable new))) i (links-kept nodes at (End (shape.Variable new)) variable) (rows-kept nodes at (End (shape.Variable new)) variable) r)
              (subst (FitsNode (IsRest (set nodes at (End (shape.Variable new))) i) s (s i)) (node_at-set_other nodes at i (End (shape.Variable new)) ne) (h.fits i))
        ];
      },
      ((both (s at)).0 (at_new h)).1,
    )

    back : Solves nodes s × HasFlag flag (s at) → Solves (set nodes at (End (shape.Variable new))) s
    back h = record {
      in_order = h.0.in_order;
      fits = λ i. elim (ℕ_discrete i at) as (λ _. FitsNode (IsRest (set nodes at (End (shape.Variable new))) i) s (s i) (node_at (set nodes at (End (shape.Variable new))) i)) [
        | yes same ↦ subst (λ (j : ℕ). FitsNode (IsRest (set nodes at (End (shape.Variable new))) j) s (s j) (node_at (set nodes at (End (shape.Variable new))) j)) (sym same)
            (subst (FitsNode (IsRest (set nodes at (End (shape.Variable new))) at) s (s at)) (sym (node_at-set_same nodes at (End (shape.Variable new)) lt))
            ((both (s at)).1 (subst (FitsNode (IsRest nodes at) s (s at)) e (h.0.fits at), h.1)))
        | no ne ↦ subst (FitsNode (IsRest (set nodes at (End (shape.Variable new))) i) s (s i)) (sym (node_at-set_other nodes at i (End (shape.Variable new)) ne))
            (FitsNode-rest (IsRest nodes i) (IsRest (set nodes at (End (shape.Variable new))) i) s (s i) (node_at nodes i)
            (λ _ r. IsRest-kept nodes (set nodes at (End (shape.Variable new))) i (links-kept nodes at (End (shape.Variable new)) variable) (rows-kept nodes at (End (shape.Variable new)) variable) r)
            (λ _ r. rest-narrowed nodes at i new lt r) (h.0.fits i))
      ];
    }

-- a variable is linked --

-- links after the change lead there before it, or first to the variable that was linked
pub links-before : (nodes : List Node) (at to end i : ℕ) → at < length nodes → LinksTo (set nodes at (Link to)) end i → LinksTo nodes end i ⊎ (LinksTo nodes at i × LinksTo (set nodes at (Link to)) end to)
links-before nodes at to end _ lt (itself) = inl itself
links-before nodes at to end _ lt (further i next e r) =
    elim (ℕ_discrete i at) as (λ _. LinksTo nodes end i ⊎ (LinksTo nodes at i × LinksTo (set nodes at (Link to)) end to)) [
      | yes same ↦ inr (subst (LinksTo nodes at) (sym same) itself, subst (LinksTo (set nodes at (Link to)) end) (link-is next (sym e ∙ ap (node_at (set nodes at (Link to))) same ∙ node_at-set_same nodes at (Link to) lt)) r)
      | no ne ↦ (let f : node_at nodes i ≡ Link next = sym (node_at-set_other nodes at i (Link to) ne) ∙ e in
          elim (links-before nodes at to end next lt r) as (λ _. LinksTo nodes end i ⊎ (LinksTo nodes at i × LinksTo (set nodes at (Link to)) end to))
          [ inl a ↦ inl (further i next f a) | inr b ↦ inr (further i next f b.0, b.1) ])
    ]
  where
    link-is : (j : ℕ) → Link j ≡ Link to → j ≡ to
    link-is j e = cc e

-- where the variable doesn't stand, links are as before
pub links-apart : (nodes : List Node) (at to end i : ℕ) → (StandsIn nodes at i → ⊥) → LinksTo (set nodes at (Link to)) end i → LinksTo nodes end i
links-apart nodes at to end _ apart (itself) = itself
links-apart nodes at to end _ apart (further i next e r) =
    let ne : i ≢ at = λ (same : i ≡ at). apart (subst (StandsIn nodes at) (sym same) here) in
    let f : node_at nodes i ≡ Link next = sym (node_at-set_other nodes at i (Link to) ne) ∙ e in
    further i next f (links-apart nodes at to end next (λ stands. apart (within i next (subst (λ (n : Node). Among next (below n)) (sym f) (inl refl)) stands)) r)

pub rest-linked : (nodes : List Node) (at to i : ℕ) → at < length nodes → (StandsIn nodes at to → ⊥) → (IsRest nodes at → IsNoNewRest nodes to) →
    IsOpaque (node_at nodes i) → IsRest (set nodes at (Link to)) i → IsRest nodes i
rest-linked nodes at to i lt apart keeps opaque h =
    let row : (h.row ≢ at) × (node_at nodes h.row ≡ End (shape.Row h.fields (Some h.rest))) =
    kept-set nodes at h.row (Link to) (End (shape.Row h.fields (Some h.rest))) lt (λ e. cc e) h.stands in
    elim (links-before nodes at to i h.rest lt h.leads) as (λ _. IsRest nodes i) [
      | inl leads ↦ record { row = h.row; fields = h.fields; rest = h.rest; stands = row.1; leads = leads }
      | inr both ↦ was (node_at nodes i) refl opaque (keeps (record { row = h.row; fields = h.fields; rest = h.rest; stands = row.1; leads = both.0 })) (links-apart nodes at to i to apart both.1)
    ]
  where
    was : (node : Node) → node_at nodes i ≡ node → IsOpaque node → IsNoNewRest nodes to → LinksTo nodes i to → IsRest nodes i
    was (End (shape.Opaque number flag)) e o no_new leads = no_new i number flag leads e
    was (End (shape.Variable flag)) e o no_new leads = absurd o
    was (End (shape.Named name arguments)) e o no_new leads = absurd o
    was (End (shape.Arrow from to)) e o no_new leads = absurd o
    was (End (shape.Tuple ps)) e o no_new leads = absurd o
    was (End (shape.Row fields rest)) e o no_new leads = absurd o
    was (Link j) e o no_new leads = absurd o
