-- What the nodes of a store say of its solutions.
use Rattle.std.proofs.Common.{◌≡◌, ◌⊎◌, ℕ, ◌+◌, ◌<◌, ◌≤◌, List, [], ◌∷◌, ◌++◌, length, Option, Some, None, refl, sym, ◌∙◌, ap, subst, arith, inl, inr}
use Rattle.elm_typing.specs.declared.flag.Flag.{Flag}
use Rattle.elm_typing.specs.declared.flag.Flag.TheVariants.{Plain, Comparable, Appendable, Both}
use Rattle.elm_typing.specs.Ground.{Row, Record, Ends}
use Rattle.elm_typing.specs.Rows.{extended_all}
use Rattle.type_terms.specs.declared.node.Node.{Node}
use Rattle.type_terms.specs.declared.node.Node.TheVariants.{End, Link}
use Rattle.type_terms.specs.declared.shape.Shape.{Shape}
use Rattle.type_terms.specs.declared.shape.Shape.TheVariants as shape
use Rattle.type_terms.specs.Depth.{IsBelow, sum_of, weight}
use Rattle.type_terms.specs.Solutions.{Assignment, MayBeRest, Solves, Fits, FitsNode, fields_of}
use Rattle.type_terms.specs.Terms.{State, nodes_of, node_at, terms_of, parts, Each, Among, LinksTo, itself, further, IsLink, IsRest}
use Rattle.type_unify.specs.declared.rows.Tail.{Tail}
use Rattle.type_unify.specs.declared.rows.Tail.TheVariants.{Closed}
use Rattle.type_unify.specs.Matching.{Fields}
use Rattle.type_unify.specs.Rests.{IsNoRest, type_parts, RestsApart, IsType}
use Rattle.type_unify.specs.Steps.{IsRow, row_of, under, IsShapeAt, IsTail, Flattens}
use Rattle.type_unify.proofs.Match.{each_append}

pub each_both : (P Q : ℕ → Type 0) (ks : List ℕ) → Each P ks → Each Q ks → Each (λ k. P k × Q k) ks
each_both P Q [] h k = tt
each_both P Q (x ∷ ks) h k = ((h.0, k.0), each_both P Q ks h.1 k.1)

pub each_at : (P : ℕ → Type 0) (ks : List ℕ) (k : ℕ) → Each P ks → Among k ks → P k
each_at P [] k h m = absurd m
each_at P (x ∷ ks) k h m = elim m as (λ _. P k) [ inl e ↦ subst P (sym e) h.0 | inr n ↦ each_at P ks k h.1 n ]

-- a term that isn't linked is the shape that is read there
pub read_here : (nodes : List Node) (at : ℕ) (read : Shape) → (IsLink (node_at nodes at) → ⊥) → ((sh : Shape) → node_at nodes at ≡ End sh → read ≡ sh) → node_at nodes at ≡ End read
read_here nodes at read end own = go (node_at nodes at) refl
  where
    go : (n : Node) → node_at nodes at ≡ n → n ≡ End read
    go (End sh) e = ap End (sym (own sh e))
    go (Link to) e = absurd (end (subst IsLink (sym e) tt))

pub fits_at : (nodes : List Node) (s : Assignment) (i : ℕ) (sh : Shape) → node_at nodes i ≡ End sh → Solves nodes s → Fits (IsRest nodes i) s (s i) sh
fits_at nodes s i sh e h = subst (FitsNode (IsRest nodes i) s (s i)) e (h.fits i)

pub links_same : (nodes : List Node) (s : Assignment) (end i : ℕ) → Solves nodes s → LinksTo nodes end i → s i ≡ s end
links_same nodes s end _ h (itself) = refl
links_same nodes s end _ h (further i next e l) =
    subst (FitsNode (IsRest nodes i) s (s i)) e (h.fits i) ∙ links_same nodes s end next h l

-- no links lead away from an end
pub no_links : (nodes : List Node) (end i : ℕ) → (IsLink (node_at nodes i) → ⊥) → LinksTo nodes end i → end ≡ i
no_links nodes end _ n (itself) = refl
no_links nodes end _ n (further i next e l) = absurd (n (subst IsLink (sym e) tt))

-- fields of a row are types
pub field_types : (nodes : List Node) (i : ℕ) (fields : Fields) (rest : Option ℕ) → RestsApart nodes → node_at nodes i ≡ End (shape.Row fields rest) →
    Each (IsBelow (length nodes)) (parts (shape.Row fields rest)) → Each (IsType nodes) (terms_of fields)
field_types nodes i fields None apart e inside =
    each_both (IsBelow (length nodes)) (IsNoRest nodes) (terms_of fields) inside (subst (λ (n : Node). Each (IsNoRest nodes) (type_parts n)) e (apart.types i))
field_types nodes i fields (Some rest) apart e inside =
    each_both (IsBelow (length nodes)) (IsNoRest nodes) (terms_of fields) inside.1 (subst (λ (n : Node). Each (IsNoRest nodes) (type_parts n)) e (apart.types i))

-- a row, as far as it was read --

pub record ReadsRow (store : List State) (at : ℕ) (fields : Fields) (end : ℕ) : Type 0 where
  pub same : (s : Assignment) (q : Row) → Solves (nodes_of store) s → s end ≡ Record q → s at ≡ Record (extended_all (fields_of s fields) q)
  pub inside : end < length (nodes_of store)
  pub stops : IsLink (node_at (nodes_of store) end) → ⊥
  pub row_or_rest : IsRow (node_at (nodes_of store) end) ⊎ IsRest (nodes_of store) end
  pub types : Each (IsType (nodes_of store)) (terms_of fields)
  pub light : sum_of (weight store) (terms_of fields) + weight store end ≤ weight store at

row_no_link : (n : Node) → IsRow n → IsLink n → ⊥
row_no_link (End sh) r l = l
row_no_link (Link to) r l = r

pub reads_first : (store : List State) (at : ℕ) → at < length (nodes_of store) → IsRow (node_at (nodes_of store) at) → ReadsRow store at [] at
reads_first store at lt row = record {
  same = λ s q h e. e;
  inside = lt;
  stops = row_no_link (node_at (nodes_of store) at) row;
  row_or_rest = inl row;
  types = tt;
  light = omega arith;
}

fields_of-append : (s : Assignment) (fs gs : Fields) (q : Row) → extended_all (fields_of s (fs ++ gs)) q ≡ extended_all (fields_of s fs) (extended_all (fields_of s gs) q)
fields_of-append s [] gs q = refl
fields_of-append s (f ∷ fs) gs q = ap (λ r. extended_all ((f.0, s f.1) ∷ []) r) (fields_of-append s fs gs q)

pub sum_of-append : (w : ℕ → ℕ) (fs gs : Fields) → sum_of w (terms_of (fs ++ gs)) ≡ sum_of w (terms_of fs) + sum_of w (terms_of gs)
sum_of-append w [] gs = omega arith
sum_of-append w (f ∷ fs) gs = let i = sum_of-append w fs gs in omega (arith, i)

pub reads_more : (store : List State) (at end : ℕ) (fields fields' more : Fields) (sh : Shape) (rest : Option ℕ) (next to : ℕ) → RestsApart (nodes_of store) → ReadsRow store at fields end →
    IsShapeAt store end sh → sh ≡ shape.Row more rest → rest ≡ Some next →
    LinksTo (nodes_of store) to next → (IsLink (node_at (nodes_of store) to) → ⊥) → to < length (nodes_of store) → weight store to ≤ weight store next →
    fields' ≡ fields ++ more → ReadsRow store at fields' to
reads_more store at end fields fields' more sh rest next to apart r shaped row has leads stops lt lighter e =
    more_row (subst (IsShapeAt store end) (row ∙ ap (shape.Row more) has) shaped)
  where
    record_row : (p q : Row) → Record p ≡ Record q → p ≡ q
    record_row p q e = cc e

    more_row : IsShapeAt store end (shape.Row more (Some next)) → ReadsRow store at fields' to
    more_row is = record {
      same = λ s q h x.
          let f = fits_at (nodes_of store) s end (shape.Row more (Some next)) is.here h in
          let same_row : f.0 ≡ q = record_row f.0 q (sym f.1 ∙ links_same (nodes_of store) s to next h leads ∙ x) in
          r.same s (extended_all (fields_of s more) q) h (f.2 ∙ ap (λ row. Record (extended_all (fields_of s more) row)) same_row)
          ∙ ap Record (sym (fields_of-append s fields more q)) ∙ ap (λ fs. Record (extended_all (fields_of s fs) q)) (sym e);
      inside = lt;
      stops = stops;
      row_or_rest = inr (record { row = end; fields = more; rest = next; stands = is.here; leads = leads });
      types = subst (λ (fs : Fields). Each (IsType (nodes_of store)) (terms_of fs)) (sym e)
          (each_append (IsType (nodes_of store)) fields more r.types (field_types (nodes_of store) end more (Some next) apart is.here is.inside));
      light = let a = sum_of-append (weight store) fields more in let b = ap (λ fs. sum_of (weight store) (terms_of fs)) e in let c = r.light in let d = is.light in omega (arith, a, b, c, d);
    }

-- the row ends without a rest
pub reads_closed : (store : List State) (at end : ℕ) (fields fields' more : Fields) (sh : Shape) (rest : Option ℕ) → RestsApart (nodes_of store) → ReadsRow store at fields end →
    IsShapeAt store end sh → sh ≡ shape.Row more rest → rest ≡ None →
    fields' ≡ fields ++ more → Flattens store at (record { fields = fields'; tail = Closed })
reads_closed store at end fields fields' more sh rest apart r shaped row closed e =
    closed_row (subst (IsShapeAt store end) (row ∙ ap (shape.Row more) closed) shaped)
  where
    closed_row : IsShapeAt store end (shape.Row more None) → Flattens store at (record { fields = fields'; tail = Closed })
    closed_row is = record {
      same = λ s h.
          r.same s (extended_all (fields_of s more) (Ends None)) h (fits_at (nodes_of store) s end (shape.Row more None) is.here h)
          ∙ ap Record (sym (fields_of-append s fields more (Ends None))) ∙ ap (λ fs. Record (extended_all (fields_of s fs) (Ends None))) (sym e);
      tail = tt;
      types = subst (λ (fs : Fields). Each (IsType (nodes_of store)) (terms_of fs)) (sym e)
          (each_append (IsType (nodes_of store)) fields more r.types (field_types (nodes_of store) end more None apart is.here is.inside));
      light = let a = sum_of-append (weight store) fields more in let b = ap (λ fs. sum_of (weight store) (terms_of fs)) e in let c = r.light in let d = is.light in omega (arith, a, b, c, d);
    }

-- a rest has the record of the row that its tail stands for
pub rest_record : (nodes : List Node) (s : Assignment) (i : ℕ) → Solves nodes s → IsRest nodes i → s i ≡ Record (row_of (s i))
rest_record nodes s i h rest =
    let f = fits_at nodes s rest.row (shape.Row rest.fields (Some rest.rest)) rest.stands h in
    let e : s i ≡ Record f.0 = sym (links_same nodes s i rest.rest h rest.leads) ∙ f.1 in
    e ∙ ap (λ t. Record (row_of t)) (sym e)

pub opaque_record : (nodes : List Node) (s : Assignment) (i number : ℕ) (flag : Flag) → Solves nodes s → IsRest nodes i → node_at nodes i ≡ End (shape.Opaque number flag) → s i ≡ Record (Ends (Some number))
opaque_record nodes s i number flag h rest e = (fits_at nodes s i (shape.Opaque number flag) e h).0 rest

-- the row ends at a variable or an opaque type
pub reads_tail : (store : List State) (at end : ℕ) (fields : Fields) (tail : Tail) → ReadsRow store at fields end → (IsRow (node_at (nodes_of store) end) → ⊥) →
    IsTail (nodes_of store) tail → ((s : Assignment) → Solves (nodes_of store) s → s end ≡ Record (under s tail)) → 0 < weight store end → Flattens store at (record { fields = fields; tail = tail })
reads_tail store at end fields tail r no_row is same heavy = record {
  same = λ s h. r.same s (under s tail) h (same s h);
  tail = is;
  types = r.types;
  light = let a = r.light in omega (arith, a, heavy);
}

pub rest_of_read : (nodes : List Node) (end : ℕ) → (IsRow (node_at nodes end) → ⊥) → IsRow (node_at nodes end) ⊎ IsRest nodes end → IsRest nodes end
rest_of_read nodes end no_row h = elim h as (λ _. IsRest nodes end) [ inl row ↦ absurd (no_row row) | inr x ↦ x ]

pub open_tail : (nodes : List Node) (at : ℕ) (sh : Shape) → node_at nodes at ≡ End sh → IsRest nodes at → (IsRow (node_at nodes at) → ⊥) → RestsApart nodes →
    ((number : ℕ) (flag : Flag) → sh ≡ shape.Opaque number flag → ⊥) → node_at nodes at ≡ End (shape.Variable Plain)
open_tail nodes at (shape.Variable Plain) e rest no_row apart other = e
open_tail nodes at (shape.Variable Comparable) e rest no_row apart other = absurd (subst MayBeRest e (apart.rests at rest))
open_tail nodes at (shape.Variable Appendable) e rest no_row apart other = absurd (subst MayBeRest e (apart.rests at rest))
open_tail nodes at (shape.Variable Both) e rest no_row apart other = absurd (subst MayBeRest e (apart.rests at rest))
open_tail nodes at (shape.Opaque number flag) e rest no_row apart other = absurd (other number flag refl)
open_tail nodes at (shape.Row fields tail) e rest no_row apart other = absurd (no_row (subst IsRow (sym e) tt))
open_tail nodes at (shape.Named name arguments) e rest no_row apart other = absurd (subst MayBeRest e (apart.rests at rest))
open_tail nodes at (shape.Arrow from to) e rest no_row apart other = absurd (subst MayBeRest e (apart.rests at rest))
open_tail nodes at (shape.Tuple ps) e rest no_row apart other = absurd (subst MayBeRest e (apart.rests at rest))

pub rigid_tail : (nodes : List Node) (at number : ℕ) (flag : Flag) → node_at nodes at ≡ End (shape.Opaque number flag) → IsRest nodes at → RestsApart nodes →
    node_at nodes at ≡ End (shape.Opaque number Plain)
rigid_tail nodes at number Plain e rest apart = e
rigid_tail nodes at number Comparable e rest apart = absurd (subst MayBeRest e (apart.rests at rest))
rigid_tail nodes at number Appendable e rest apart = absurd (subst MayBeRest e (apart.rests at rest))
rigid_tail nodes at number Both e rest apart = absurd (subst MayBeRest e (apart.rests at rest))
