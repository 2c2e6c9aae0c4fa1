-- Marks at the rests of rows.
use Rattle.std.proofs.Common.{◌≡◌, ℕ, zero, suc, ◌+◌, ◌<◌, List, Bool, true, false, length, sym, ◌∙◌, ap, subst, arith, Some, None, slice_index_or, set, length-set, get_or-set_other, get_or-set_same, replicate}
use native.Mathlib.Decide.{ℕ_discrete}
use Rattle.type_terms.specs.declared.node.Node.{Node}
use Rattle.type_terms.specs.declared.node.Node.TheVariants.{End}
use Rattle.type_terms.specs.declared.shape.Shape.{Shape}
use Rattle.type_terms.specs.declared.shape.Shape.TheVariants as shape
use Rattle.type_terms.specs.Terms.{node_at, IsLink, IsRest, LinksTo}
use Rattle.type_terms.proofs.Existence.{links-meet}
use Rattle.type_terms.proofs.Pushed.{inside-other}
use Rattle.type_sorts.specs.Vertices.{AreRests, rest_of}

-- the rests of the rows among the first terms are marked
pub record MarkedBelow (nodes : List Node) (terms : ℕ) (marks : List Bool) : Type 0 where
  pub long : length marks ≡ length nodes
  pub yes : (i : ℕ) → slice_index_or marks i false ≡ true → IsRest nodes i
  pub no : (i : ℕ) → (IsLink (node_at nodes i) → ⊥) → slice_index_or marks i false ≡ false → (h : IsRest nodes i) → h.row < terms → ⊥

unmarked : (n i : ℕ) → slice_index_or (replicate n false) i false ≡ true → ⊥
unmarked zero i e = cc e
unmarked (suc n) zero e = cc e
unmarked (suc n) (suc i) e = unmarked n i e

pub marked-none : (nodes : List Node) (n : ℕ) (marks : List Bool) → marks ≡ replicate n false → length marks ≡ length nodes → MarkedBelow nodes 0 marks
marked-none nodes n marks e long = record {
  long = long;
  yes = λ i t. absurd (unmarked n i (subst (λ (l : List Bool). slice_index_or l i false ≡ true) e t));
  no = λ i not t h lt. absurd (omega (arith, lt));
}

-- a term that is no row
pub marked-other : (nodes : List Node) (at : ℕ) (marks : List Bool) → ((fields : List (List ℕ × ℕ)) (rest : ℕ) → node_at nodes at ≡ End (shape.Row fields (Some rest)) → ⊥) →
    MarkedBelow nodes at marks → MarkedBelow nodes (at + 1) marks
marked-other nodes at marks not h = record {
  long = h.long;
  yes = h.yes;
  no = λ i no_link t rest lt. elim (ℕ_discrete rest.row at) as (λ _. ⊥) [
    | yes same ↦ not rest.fields rest.rest (sym (ap (node_at nodes) same) ∙ rest.stands)
    | no ne ↦ h.no i no_link t rest (omega (arith, lt, ne))
  ];
}

pub marked-row : (nodes : List Node) (at row end : ℕ) (fields : List (List ℕ × ℕ)) (rest : ℕ) (marks : List Bool) → node_at nodes row ≡ End (shape.Row fields (Some rest)) →
    ((IsLink (node_at nodes at) → ⊥) → node_at nodes at ≡ End (shape.Row fields (Some rest))) →
    LinksTo nodes end rest → (IsLink (node_at nodes end) → ⊥) → end < length nodes →
    MarkedBelow nodes at marks → MarkedBelow nodes (at + 1) (set marks end true)
marked-row nodes at row end fields rest marks stands own leads no_link lt h = record {
  long = length-set marks end true ∙ h.long;
  yes = λ i t. elim (ℕ_discrete i end) as (λ _. IsRest nodes i) [
    | yes same ↦ subst (IsRest nodes) (sym same) (record { row = row; fields = fields; rest = rest; stands = stands; leads = leads })
    | no ne ↦ h.yes i (sym (get_or-set_other marks end i true false ne) ∙ t)
  ];
  no = λ i not t r below. elim (ℕ_discrete i end) as (λ _. ⊥) [
    | yes same ↦ (let m : slice_index_or (set marks end true) end false ≡ true = get_or-set_same marks end true false (omega (arith, lt, h.long)) in
        let f : slice_index_or (set marks end true) end false ≡ false = subst (λ (j : ℕ). slice_index_or (set marks end true) j false ≡ false) same t in
        cc (m, f))
    | no ne ↦ elim (ℕ_discrete r.row at) as (λ _. ⊥) [
      | yes is ↦ (let here : node_at nodes at ≡ End (shape.Row r.fields (Some r.rest)) = sym (ap (node_at nodes) is) ∙ r.stands in
          let row_is = sym (own (λ l. subst IsLink here l)) ∙ here in
          ne (links-meet nodes i end rest (subst (LinksTo nodes i) (rest-is fields r.fields rest r.rest row_is) r.leads) leads not no_link))
      | no other ↦ h.no i not (sym (get_or-set_other marks end i true false ne) ∙ t) r (omega (arith, below, other))
    ]
  ];
}
  where
    rest-is : (fs gs : List (List ℕ × ℕ)) (r q : ℕ) → End (shape.Row fs (Some r)) ≡ End (shape.Row gs (Some q)) → q ≡ r
    rest-is fs gs r q e = cc e

pub marked-all : (nodes : List Node) (marks : List Bool) → MarkedBelow nodes (length nodes) marks → AreRests nodes marks
marked-all nodes marks h = record {
  long = h.long;
  yes = h.yes;
  no = λ i not t rest. h.no i not t rest (inside-other nodes rest.row (End (shape.Row rest.fields (Some rest.rest))) (λ v. v) rest.stands);
}

pub rest-some : (form : Shape) (rest : ℕ) → rest_of form ≡ Some rest → (fields : List (List ℕ × ℕ)) × (form ≡ shape.Row fields (Some rest))
rest-some (shape.Row fields other) rest e = (fields, ap (shape.Row fields) e)
rest-some (shape.Variable flag) rest e = cc e
rest-some (shape.Opaque number flag) rest e = cc e
rest-some (shape.Named name arguments) rest e = cc e
rest-some (shape.Arrow from to) rest e = cc e
rest-some (shape.Tuple ps) rest e = cc e

pub rest-none : (form : Shape) → rest_of form ≡ None → (fields : List (List ℕ × ℕ)) (rest : ℕ) → End form ≡ End (shape.Row fields (Some rest)) → ⊥
rest-none form e fields rest same =
    let f : form ≡ shape.Row fields (Some rest) = cc same in
    let g : rest_of form ≡ Some rest = ap rest_of f in
    cc (e, g)
