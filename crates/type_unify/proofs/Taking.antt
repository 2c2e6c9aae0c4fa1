-- What a new row and a binding leave of the solutions.
use Rattle.std.proofs.Common.{◌≡◌, ◌≢◌, ◌↔◌, ℕ, suc, ◌<◌, List, [], ◌∷◌, ◌++◌, length, Option, Some, None, refl, sym, ◌∙◌, ap, subst, arith, inl, inr, length-append}
use Rattle.elm_typing.specs.declared.flag.Flag.TheVariants.{Plain}
use Rattle.elm_typing.specs.Flags.{HasFlag}
use Rattle.elm_typing.specs.Ground.{Ground, Row, Record, Ends}
use Rattle.elm_typing.specs.Ordered.{InOrder, RowInOrder}
use Rattle.elm_typing.specs.Rows.{extended_all}
use Rattle.type_terms.specs.declared.node.Node.{Node}
use Rattle.type_terms.specs.declared.node.Node.TheVariants.{End}
use Rattle.type_terms.specs.declared.shape.Shape.{Shape}
use Rattle.type_terms.specs.declared.shape.Shape.TheVariants as shape
use Rattle.type_terms.specs.Depth.{IsBelow, IsSound}
use Rattle.type_terms.specs.Solutions.{Assignment, Solves, Fits, AddsNoRest, fields_of, with_type}
use Rattle.type_terms.specs.Terms.{State, nodes_of, notes_of, node_at, parts, below, terms_of, Each, Among, LinksTo, itself, StandsIn, here, within, IsLink, IsVariable, IsRest, unlinked}
use Rattle.type_terms.proofs.Composed.{with-cases}
use Rattle.type_terms.proofs.Sound.{node_at-old, node_at-new}
use Rattle.type_unify.specs.declared.rows.Tail.{Tail}
use Rattle.type_unify.specs.declared.rows.Tail.TheVariants.{Closed, Rigid, Open}
use Rattle.type_unify.specs.declared.step.Step.{Step}
use Rattle.type_unify.specs.declared.step.Step.TheVariants.{Binds, Extends, Splits}
use Rattle.type_unify.specs.Bound.{IsBound}
use Rattle.type_unify.specs.Matching.{Fields}
use Rattle.type_unify.specs.Rests.{IsNoRest, RestsApart, IsType}
use Rattle.type_unify.specs.Steps.{row_of, under, IsRow, IsTail, CanBind, CanExtend, CanSplit, CanTake}
use Rattle.type_unify.specs.Taken.{Agree, rest_term, Takes, OpensRest}
use Rattle.type_unify.proofs.Adding.{DoesNoHarm, variable_harmless, fresh_row_harmless, unlinked_variable, apart_pushed, no_rest_pushed, row_harmless, row_type, tail_pushed, type_pushed, unlinked_row}
use Rattle.elm_typing.proofs.RowAlgebra.{apart_solve, apart_swap}
use Rattle.elm_typing.proofs.RowMaps.{extended-in_order}
use Rattle.type_unify.proofs.Deciding.{fields_apart}
use Rattle.type_unify.proofs.Heavier.{row_heavier, variable_lighter}
use Rattle.type_unify.proofs.Reading.{no_links, rest_record, opaque_record}

pub with_here : (s : Assignment) (at : ℕ) (t : Ground) → with_type s at t at ≡ t
with_here s at t = elim (with-cases s at t at) as (λ _. with_type s at t at ≡ t) [ inl h ↦ h.1 | inr h ↦ absurd (h.0 refl) ]

pub with_other : (s : Assignment) (at i : ℕ) (t : Ground) → i ≢ at → with_type s at t i ≡ s i
with_other s at i t ne = elim (with-cases s at t i) as (λ _. with_type s at t i ≡ s i) [ inl h ↦ absurd (ne h.0) | inr h ↦ h.1 ]

record_same : (p q : Row) → Record p ≡ Record q → p ≡ q
record_same p q e = cc e

-- a shape of fields over a tail has the record of the fields over the tail's row
fits_to : (nodes : List Node) (s : Assignment) (t : Ground) (fields : Fields) (tail : Tail) → IsTail nodes tail → Solves nodes s → Fits ⊥ s t (shape.Row fields (rest_term tail)) →
    t ≡ Record (extended_all (fields_of s fields) (under s tail))
fits_to nodes s t fields Closed is h f = f
fits_to nodes s t fields (Rigid at number) is h f =
    f.2 ∙ ap (λ q. Record (extended_all (fields_of s fields) q)) (record_same f.0 (Ends (Some number)) (sym f.1 ∙ opaque_record nodes s at number Plain h is.1 is.2))
fits_to nodes s t fields (Open at) is h f =
    f.2 ∙ ap (λ q. Record (extended_all (fields_of s fields) q)) (record_same f.0 (row_of (s at)) (sym f.1 ∙ rest_record nodes s at h is.1))

fits_back : (nodes : List Node) (s : Assignment) (t : Ground) (fields : Fields) (tail : Tail) → IsTail nodes tail → Solves nodes s → t ≡ Record (extended_all (fields_of s fields) (under s tail)) →
    Fits ⊥ s t (shape.Row fields (rest_term tail))
fits_back nodes s t fields Closed is h e = e
fits_back nodes s t fields (Rigid at number) is h e = (Ends (Some number), opaque_record nodes s at number Plain h is.1 is.2, e)
fits_back nodes s t fields (Open at) is h e = (row_of (s at), rest_record nodes s at h is.1, e)

pub adds_no_rest : (nodes : List Node) (fields : Fields) (tail : Tail) → IsTail nodes tail → AddsNoRest nodes (shape.Row fields (rest_term tail))
adds_no_rest nodes fields Closed is = tt
adds_no_rest nodes fields (Rigid at number) is = λ end m flag leads e. subst (IsRest nodes) (sym (no_links nodes end at (λ l. subst IsLink is.2 l) leads)) is.1
adds_no_rest nodes fields (Open at) is = λ end m flag leads e. subst (IsRest nodes) (sym (no_links nodes end at (λ l. subst IsLink is.2 l) leads)) is.1

pub firsts : (nodes : List Node) (ks : List ℕ) → Each (IsType nodes) ks → Each (IsBelow (length nodes)) ks
firsts nodes [] h = tt
firsts nodes (k ∷ ks) h = (h.0.0, firsts nodes ks h.1)

tail_parts : (nodes : List Node) (fields : Fields) (tail : Tail) → IsTail nodes tail → Each (IsType nodes) (terms_of fields) → Each (IsBelow (length nodes)) (parts (shape.Row fields (rest_term tail)))
tail_parts nodes fields Closed is types = firsts nodes (terms_of fields) types
tail_parts nodes fields (Rigid at number) is types = (is.0, firsts nodes (terms_of fields) types)
tail_parts nodes fields (Open at) is types = (is.0, firsts nodes (terms_of fields) types)

pub extend_parts : (nodes : List Node) (at : ℕ) (fields : Fields) (tail : Tail) (rest : Option ℕ) → CanExtend nodes at fields tail → rest ≡ rest_term tail → Each (IsBelow (length nodes)) (parts (shape.Row fields rest))
extend_parts nodes at fields tail rest c e = subst (λ (r : Option ℕ). Each (IsBelow (length nodes)) (parts (shape.Row fields r))) (sym e) (tail_parts nodes fields tail c.ends c.types)

-- a row was made, to which the rest is to be bound
pub record Rowed (old mid : List Node) (at row : ℕ) (fields : Fields) (tail : Tail) : Type 0 where
  pub can : CanExtend old at fields tail
  pub place : row ≡ length old
  pub added : mid ≡ old ++ End (shape.Row fields (rest_term tail)) ∷ []
  pub apart : RestsApart mid
  pub types : (i : ℕ) → IsType old i → IsType mid i
  pub solutions : (s : Assignment) → Solves mid s ↔ (Solves old s × Fits ⊥ s (s row) (shape.Row fields (rest_term tail)))
  pub extends : (s : Assignment) (type : Ground) → Solves old s → Fits ⊥ s type (shape.Row fields (rest_term tail)) → InOrder type → Solves mid (with_type s row type)

pub rowed : (old new : List State) (bound at end row : ℕ) (fields : Fields) (tail : Tail) (rest : Option ℕ) → IsSound (nodes_of old) bound → RestsApart (nodes_of old) →
    CanExtend (nodes_of old) at fields tail → end ≡ at → rest ≡ rest_term tail → row ≡ length (nodes_of old) →
    new ≡ record { nodes = nodes_of old ++ End (shape.Row fields rest) ∷ []; notes = notes_of old } ∷ old →
    (AddsNoRest (nodes_of old) (shape.Row fields rest) → (s : Assignment) → Solves (nodes_of new) s ↔ (Solves (nodes_of old) s × Fits ⊥ s (s row) (shape.Row fields rest))) →
    (AddsNoRest (nodes_of old) (shape.Row fields rest) → (s : Assignment) (type : Ground) → Solves (nodes_of old) s → Fits ⊥ s type (shape.Row fields rest) → InOrder type → Solves (nodes_of new) (with_type s row type)) →
    Rowed (nodes_of old) (nodes_of new) end row fields tail
rowed old new bound at end row fields tail rest sound apart c same e place state solutions extends =
    let harmless = row_harmless (nodes_of old) bound fields tail sound c.types c.ends in
    let is : nodes_of new ≡ nodes_of old ++ End (shape.Row fields (rest_term tail)) ∷ [] = ap nodes_of state ∙ ap (λ r. nodes_of old ++ End (shape.Row fields r) ∷ []) e in
    let adds = subst (λ (r : Option ℕ). AddsNoRest (nodes_of old) (shape.Row fields r)) (sym e) (adds_no_rest (nodes_of old) fields tail c.ends) in record {
      can = subst (λ (j : ℕ). CanExtend (nodes_of old) j fields tail) (sym same) c;
      place = place;
      added = is;
      apart = subst RestsApart (sym is) (apart_pushed (nodes_of old) bound (length (nodes_of old)) (shape.Row fields (rest_term tail)) sound harmless apart);
      types = λ i t. subst (λ (nodes : List Node). IsType nodes i) (sym is)
          (type_pushed (nodes_of old) (length (nodes_of old)) (shape.Row fields (rest_term tail)) i harmless t.0 (omega arith) t.1);
      solutions = λ s. subst (λ (r : Option ℕ). Solves (nodes_of new) s ↔ (Solves (nodes_of old) s × Fits ⊥ s (s row) (shape.Row fields r))) e (solutions adds s);
      extends = λ s type h f o. extends adds s type h (subst (λ (r : Option ℕ). Fits ⊥ s type (shape.Row fields r)) (sym e) f) o;
    }

row_node : (old mid : List Node) (at row : ℕ) (fields : Fields) (tail : Tail) → Rowed old mid at row fields tail → node_at mid row ≡ End (shape.Row fields (rest_term tail))
row_node old mid at row fields tail r =
    ap (λ nodes. node_at nodes row) r.added ∙ ap (node_at (old ++ End (shape.Row fields (rest_term tail)) ∷ [])) r.place ∙ node_at-new old (End (shape.Row fields (rest_term tail)))

at_node : (old mid : List Node) (at row : ℕ) (fields : Fields) (tail : Tail) → Rowed old mid at row fields tail → node_at mid at ≡ End (shape.Variable Plain)
at_node old mid at row fields tail r =
    ap (λ nodes. node_at nodes at) r.added ∙ node_at-old old (End (shape.Row fields (rest_term tail))) at r.can.source.0 ∙ r.can.source.2

pub rowed_inside : (old mid : List Node) (at row : ℕ) (fields : Fields) (tail : Tail) → Rowed old mid at row fields tail → at < length mid
rowed_inside old mid at row fields tail r =
    let l = ap length r.added ∙ length-append old (End (shape.Row fields (rest_term tail)) ∷ []) in let lt = r.can.source.0 in omega (arith, l, lt)

pub rowed_variable : (old mid : List Node) (at row : ℕ) (fields : Fields) (tail : Tail) → Rowed old mid at row fields tail → IsVariable (node_at mid at)
rowed_variable old mid at row fields tail r = subst IsVariable (sym (at_node old mid at row fields tail r)) tt

pub rowed_target : (old mid : List Node) (at row : ℕ) (fields : Fields) (tail : Tail) → Rowed old mid at row fields tail → IsType mid row
rowed_target old mid at row fields tail r =
    subst (λ (nodes : List Node). IsType nodes row) (sym r.added)
    (subst (IsType (old ++ End (shape.Row fields (rest_term tail)) ∷ [])) (sym r.place) (row_type old fields (rest_term tail)))

pub rowed_end : (old mid : List Node) (at row : ℕ) (fields : Fields) (tail : Tail) → Rowed old mid at row fields tail → IsLink (node_at mid row) → ⊥
rowed_end old mid at row fields tail r l = subst IsLink (row_node old mid at row fields tail r) l

pub rowed_row : (old mid : List Node) (at row : ℕ) (fields : Fields) (tail : Tail) → Rowed old mid at row fields tail → IsRow (node_at mid row)
rowed_row old mid at row fields tail r = subst IsRow (sym (row_node old mid at row fields tail r)) tt

-- a variable stands in an end without parts only where it is that end
stands_alone : (nodes : List Node) (v y : ℕ) (sh : Shape) → node_at nodes y ≡ End sh → parts sh ≡ [] → StandsIn nodes v y → v ≡ y
stands_alone nodes v _ sh e none (here) = refl
stands_alone nodes v _ sh e none (within y k m s) =
    absurd (subst (Among k) none (subst (λ (n : Node). Among k (below n)) e m))

tail_away : (old mid : List Node) (at : ℕ) (tail : Tail) (y : ℕ) → IsTail old tail → tail ≢ Open at → node_at mid at ≡ End (shape.Variable Plain) → ((j : ℕ) → j < length old → node_at mid j ≡ node_at old j) →
    rest_term tail ≡ Some y → StandsIn mid at y → ⊥
tail_away old mid at Closed y is other var kept e stands = (let x : None ≡ Some y = e in cc x)
tail_away old mid at (Rigid place number) y is other var kept e stands =
    let x : place ≡ y = cc e in
    let n : node_at mid y ≡ End (shape.Opaque number Plain) = ap (node_at mid) (sym x) ∙ kept place is.0 ∙ is.2 in
    let same = stands_alone mid at y (shape.Opaque number Plain) n refl stands in
    let clash : End (shape.Variable Plain) ≡ End (shape.Opaque number Plain) = sym var ∙ ap (node_at mid) same ∙ n in cc clash
tail_away old mid at (Open place) y is other var kept e stands =
    let x : place ≡ y = cc e in
    let n : node_at mid y ≡ End (shape.Variable Plain) = ap (node_at mid) (sym x) ∙ kept place is.0 ∙ is.2 in
    other (ap Open (x ∙ sym (stands_alone mid at y (shape.Variable Plain) n refl stands)))

pub rowed_heavier : (old mid : List Node) (at row : ℕ) (fields : Fields) (tail : Tail) → Rowed old mid at row fields tail → (s : Assignment) → Solves mid s → StandsIn mid at row → s at ≢ s row
rowed_heavier old mid at row fields tail r s h =
    row_heavier mid s at row fields (rest_term tail) h (row_node old mid at row fields tail r)
    (λ e. let p = r.place in let lt = r.can.source.0 in omega (arith, e, p, lt))
    (λ y. tail_away old mid at tail y r.can.ends r.can.other (at_node old mid at row fields tail r)
    (λ j lt. ap (λ nodes. node_at nodes j) r.added ∙ node_at-old old (End (shape.Row fields (rest_term tail))) j lt))

-- a solution in which the step holds, with the new row's type
rowed_with : (old mid : List Node) (at row : ℕ) (fields : Fields) (tail : Tail) → Rowed old mid at row fields tail → (s : Assignment) → Solves old s →
    s at ≡ Record (extended_all (fields_of s fields) (under s tail)) → (r : Assignment) × Agree (length old) s r × Solves mid r × (r at ≡ r row)
rowed_with old mid at row fields tail r s h e =
    let t = Record (extended_all (fields_of s fields) (under s tail)) in
    let apart : at ≢ row = λ x. let p = r.place in let lt = r.can.source.0 in omega (arith, x, p, lt) in (
      with_type s row t,
      (λ i lt. sym (with_other s row i t (λ x. let p = r.place in omega (arith, x, p, lt)))),
      r.extends s t h (fits_back old s t fields tail r.can.ends h refl) (subst InOrder e (h.in_order at)),
      with_other s row at t apart ∙ e ∙ sym (with_here s row t),
    )

pub extends_taken : (old mid new : List Node) (at row : ℕ) (fields : Fields) (tail : Tail) → Rowed old mid at row fields tail → IsBound mid new at row → Takes old new (Extends at fields tail)
extends_taken old mid new at row fields tail r b = record {
  sound = λ s h.
      let m = (b.solutions s).0 h in
      let o = (r.solutions s).0 m.0 in
      (o.0, m.1 ∙ fits_to old s (s row) fields tail r.can.ends o.0 o.1);
  complete = λ s h e.
      let w = rowed_with old mid at row fields tail r s h e in
      (w.0, w.1, (b.solutions w.0).1 (w.2, w.3));
  apart = b.apart;
  types = λ i t. b.types i (r.types i t);
  longer = let l = ap length r.added ∙ length-append old (End (shape.Row fields (rest_term tail)) ∷ []) in let m = b.long in omega (arith, l, m);
  fewer = let f = b.fewer in let u = ap unlinked r.added ∙ unlinked_row old fields (rest_term tail) in omega (arith, f, u);
}

pub extends_refused : (old mid : List Node) (at row : ℕ) (fields : Fields) (tail : Tail) → Rowed old mid at row fields tail → ((s : Assignment) → Solves mid s → s at ≢ s row) →
    (s : Assignment) → Solves old s → s at ≡ Record (extended_all (fields_of s fields) (under s tail)) → ⊥
extends_refused old mid at row fields tail r never s h e =
    let w = rowed_with old mid at row fields tail r s h e in never w.0 w.2 w.3

-- the end of the links of a rest that is not linked
pub rest_end : (nodes : List Node) (at end : ℕ) (fields : Fields) (tail : Tail) → CanExtend nodes at fields tail → LinksTo nodes end at → end ≡ at
rest_end nodes at end fields tail c leads = no_links nodes end at (λ l. subst IsLink c.source.2 l) leads

pub takes_at : (old new : List Node) (at end : ℕ) (fields : Fields) (tail : Tail) → end ≡ at → Takes old new (Extends end fields tail) → Takes old new (Extends at fields tail)
takes_at old new at end fields tail same t = subst (λ (j : ℕ). Takes old new (Extends j fields tail)) same t

-- a new rest --

-- a row over a new variable was made, to which the rest x is to be bound
pub record Opened (old mid : List Node) (x q row : ℕ) (fields : Fields) : Type 0 where
  pub source : IsTail old (Open x)
  pub variable : q ≡ length old
  pub place : row ≡ suc (length old)
  pub added : mid ≡ (old ++ End (shape.Variable Plain) ∷ []) ++ End (shape.Row fields (Some q)) ∷ []
  pub apart : RestsApart mid
  pub types : (i : ℕ) → IsType old i → IsType mid i
  pub solutions : (s : Assignment) → Solves mid s ↔ (Solves old s × Fits ⊥ s (s row) (shape.Row fields (Some q)))
  pub extends : (s : Assignment) (t u : Ground) → Solves old s → InOrder t → Fits ⊥ (with_type s q t) u (shape.Row fields (Some q)) → InOrder u → Solves mid (with_type (with_type s q t) row u)

fresh_adds_none : (nodes : List Node) (fields : Fields) → AddsNoRest (nodes ++ End (shape.Variable Plain) ∷ []) (shape.Row fields (Some (length nodes)))
fresh_adds_none nodes fields = λ end m flag leads e.
    let is = node_at-new nodes (End (shape.Variable Plain)) in
    let same = no_links (nodes ++ End (shape.Variable Plain) ∷ []) end (length nodes) (λ l. subst IsLink is l) leads in
    let clash : End (shape.Variable Plain) ≡ End (shape.Opaque m flag) = sym is ∙ ap (node_at (nodes ++ End (shape.Variable Plain) ∷ [])) (sym same) ∙ e in cc clash

pub opened : (old one new : List State) (bound more x end variable q row : ℕ) (fields : Fields) → IsSound (nodes_of old) bound → IsSound (nodes_of one) more → RestsApart (nodes_of old) →
    IsTail (nodes_of old) (Open x) → Each (IsType (nodes_of old)) (terms_of fields) → end ≡ x → variable ≡ length (nodes_of old) → q ≡ variable →
    one ≡ record { nodes = nodes_of old ++ End (shape.Variable Plain) ∷ []; notes = notes_of old } ∷ old →
    ((s : Assignment) → Solves (nodes_of one) s ↔ (Solves (nodes_of old) s × HasFlag Plain (s variable))) →
    ((s : Assignment) (type : Ground) → Solves (nodes_of old) s → HasFlag Plain type → InOrder type → Solves (nodes_of one) (with_type s variable type)) →
    row ≡ length (nodes_of one) → new ≡ record { nodes = nodes_of one ++ End (shape.Row fields (Some q)) ∷ []; notes = notes_of one } ∷ one →
    (AddsNoRest (nodes_of one) (shape.Row fields (Some q)) → (s : Assignment) → Solves (nodes_of new) s ↔ (Solves (nodes_of one) s × Fits ⊥ s (s row) (shape.Row fields (Some q)))) →
    (AddsNoRest (nodes_of one) (shape.Row fields (Some q)) → (s : Assignment) (type : Ground) → Solves (nodes_of one) s → Fits ⊥ s type (shape.Row fields (Some q)) → InOrder type → Solves (nodes_of new) (with_type s row type)) →
    Opened (nodes_of old) (nodes_of new) end q row fields
opened old one new bound more x end variable q row fields sound sound_one apart source types same is_new is_end state solutions extends place state2 solutions2 extends2 =
    let var = End (shape.Variable Plain) in
    let is_one : nodes_of one ≡ nodes_of old ++ var ∷ [] = ap nodes_of state in
    let q_is : q ≡ length (nodes_of old) = is_end ∙ is_new in
    let harmless_one = variable_harmless (nodes_of old) bound Plain sound in
    let apart_one = subst RestsApart (sym is_one) (apart_pushed (nodes_of old) bound (length (nodes_of old)) (shape.Variable Plain) sound harmless_one apart) in
    let harmless : DoesNoHarm (nodes_of one) (length (nodes_of old)) (shape.Row fields (Some q))
    = subst (λ (nodes : List Node). DoesNoHarm nodes (length (nodes_of old)) (shape.Row fields (Some q))) (sym is_one)
    (subst (λ (j : ℕ). DoesNoHarm (nodes_of old ++ var ∷ []) (length (nodes_of old)) (shape.Row fields (Some j))) (sym q_is)
    (fresh_row_harmless (nodes_of old) bound fields sound types)) in
    let adds : AddsNoRest (nodes_of one) (shape.Row fields (Some q))
    = subst (λ (nodes : List Node). AddsNoRest nodes (shape.Row fields (Some q))) (sym is_one)
    (subst (λ (j : ℕ). AddsNoRest (nodes_of old ++ var ∷ []) (shape.Row fields (Some j))) (sym q_is) (fresh_adds_none (nodes_of old) fields)) in
    let is_new_nodes : nodes_of new ≡ nodes_of one ++ End (shape.Row fields (Some q)) ∷ [] = ap nodes_of state2 in
    let long : length (nodes_of one) ≡ suc (length (nodes_of old)) = ap length is_one ∙ length-append (nodes_of old) (var ∷ []) ∙ omega arith in record {
      source = subst (λ (j : ℕ). IsTail (nodes_of old) (Open j)) (sym same) source;
      variable = q_is;
      place = place ∙ long;
      added = is_new_nodes ∙ ap (λ nodes. nodes ++ End (shape.Row fields (Some q)) ∷ []) is_one;
      apart = subst RestsApart (sym is_new_nodes) (apart_pushed (nodes_of one) more (length (nodes_of old)) (shape.Row fields (Some q)) sound_one harmless apart_one);
      types = λ i t. subst (λ (nodes : List Node). IsType nodes i) (sym is_new_nodes)
          (type_pushed (nodes_of one) (length (nodes_of old)) (shape.Row fields (Some q)) i harmless t.0 (omega (arith, long))
          (subst (λ (nodes : List Node). IsNoRest nodes i) (sym is_one) (no_rest_pushed (nodes_of old) (length (nodes_of old)) (shape.Variable Plain) i harmless_one t.0 t.1)));
      solutions = λ s. (
        (λ h. let r = (solutions2 adds s).0 h in (((solutions s).0 r.0).0, r.1)),
        λ h. (solutions2 adds s).1 ((solutions s).1 (h.0, tt), h.1),
      );
      extends = λ s t u h o f p.
          let one_solves = subst (λ (j : ℕ). Solves (nodes_of one) (with_type s j t)) (sym is_end) (extends s t h tt o) in
          extends2 adds (with_type s q t) u one_solves f p;
    }

opened_row : (old mid : List Node) (x q row : ℕ) (fields : Fields) → Opened old mid x q row fields → node_at mid row ≡ End (shape.Row fields (Some q))
opened_row old mid x q row fields r =
    let one = old ++ End (shape.Variable Plain) ∷ [] in
    let long : length one ≡ suc (length old) = length-append old (End (shape.Variable Plain) ∷ []) ∙ omega arith in
    ap (λ nodes. node_at nodes row) r.added ∙ ap (node_at (one ++ End (shape.Row fields (Some q)) ∷ [])) (r.place ∙ sym long) ∙ node_at-new one (End (shape.Row fields (Some q)))

opened_old : (old mid : List Node) (x q row i : ℕ) (fields : Fields) → Opened old mid x q row fields → i < length old → node_at mid i ≡ node_at old i
opened_old old mid x q row i fields r lt =
    let one = old ++ End (shape.Variable Plain) ∷ [] in
    let long : length one ≡ suc (length old) = length-append old (End (shape.Variable Plain) ∷ []) ∙ omega arith in
    ap (λ nodes. node_at nodes i) r.added ∙ node_at-old one (End (shape.Row fields (Some q))) i (omega (arith, long, lt)) ∙ node_at-old old (End (shape.Variable Plain)) i lt

opened_new : (old mid : List Node) (x q row : ℕ) (fields : Fields) → Opened old mid x q row fields → node_at mid q ≡ End (shape.Variable Plain)
opened_new old mid x q row fields r =
    let one = old ++ End (shape.Variable Plain) ∷ [] in
    let long : length one ≡ suc (length old) = length-append old (End (shape.Variable Plain) ∷ []) ∙ omega arith in
    let v = r.variable in
    ap (λ nodes. node_at nodes q) r.added ∙ node_at-old one (End (shape.Row fields (Some q))) q (omega (arith, long, v)) ∙ ap (node_at one) r.variable ∙ node_at-new old (End (shape.Variable Plain))

opened_long : (old mid : List Node) (x q row : ℕ) (fields : Fields) → Opened old mid x q row fields → length mid ≡ suc (suc (length old))
opened_long old mid x q row fields r =
    let one = old ++ End (shape.Variable Plain) ∷ [] in
    let a = length-append old (End (shape.Variable Plain) ∷ []) in
    let b = ap length r.added ∙ length-append one (End (shape.Row fields (Some q)) ∷ []) in omega (arith, a, b)

pub opened_inside : (old mid : List Node) (x q row : ℕ) (fields : Fields) → Opened old mid x q row fields → x < length mid
opened_inside old mid x q row fields r = let l = opened_long old mid x q row fields r in let lt = r.source.0 in omega (arith, l, lt)

pub opened_variable : (old mid : List Node) (x q row : ℕ) (fields : Fields) → Opened old mid x q row fields → IsVariable (node_at mid x)
opened_variable old mid x q row fields r = subst IsVariable (sym (opened_old old mid x q row x fields r r.source.0 ∙ r.source.2)) tt

pub opened_target : (old mid : List Node) (x q row : ℕ) (fields : Fields) → Opened old mid x q row fields → IsType mid row
opened_target old mid x q row fields r =
    let one = old ++ End (shape.Variable Plain) ∷ [] in
    let long : length one ≡ suc (length old) = length-append old (End (shape.Variable Plain) ∷ []) ∙ omega arith in
    subst (λ (nodes : List Node). IsType nodes row) (sym r.added)
    (subst (IsType (one ++ End (shape.Row fields (Some q)) ∷ [])) (sym (r.place ∙ sym long)) (row_type one fields (Some q)))

pub opened_end : (old mid : List Node) (x q row : ℕ) (fields : Fields) → Opened old mid x q row fields → IsLink (node_at mid row) → ⊥
opened_end old mid x q row fields r l = subst IsLink (opened_row old mid x q row fields r) l

pub opened_is_row : (old mid : List Node) (x q row : ℕ) (fields : Fields) → Opened old mid x q row fields → IsRow (node_at mid row)
opened_is_row old mid x q row fields r = subst IsRow (sym (opened_row old mid x q row fields r)) tt

pub opened_heavier : (old mid : List Node) (x q row : ℕ) (fields : Fields) → Opened old mid x q row fields → (s : Assignment) → Solves mid s → StandsIn mid x row → s x ≢ s row
opened_heavier old mid x q row fields r s h =
    let lt = r.source.0 in let p = r.place in let v = r.variable in
    row_heavier mid s x row fields (Some q) h (opened_row old mid x q row fields r)
    (λ e. omega (arith, e, p, lt))
    (λ y e stands. let z : q ≡ y = cc e in
    let w = stands_alone mid x y (shape.Variable Plain) (ap (node_at mid) (sym z) ∙ opened_new old mid x q row fields r) refl stands in omega (arith, w, z, v, lt))

-- a solution in which the rest is the fields over some row, with the types of the new variable and the new row
opened_with : (old mid : List Node) (x q row : ℕ) (fields : Fields) → Opened old mid x q row fields → Each (IsType old) (terms_of fields) → (s : Assignment) (under_all : Row) → Solves old s → RowInOrder under_all →
    s x ≡ Record (extended_all (fields_of s fields) under_all) → (r : Assignment) × Agree (length old) s r × Solves mid r × (r x ≡ r row) × (r q ≡ Record under_all)
opened_with old mid x q row fields r types s under_all h o e =
    let one = with_type s q (Record under_all) in
    let u = s x in
    let v = r.variable in let p = r.place in let lt = r.source.0 in
    let same_fields : fields_of one fields ≡ fields_of s fields = kept fields types in (
      with_type one row u,
      (λ i lt. sym (with_other one row i u (λ x. omega (arith, x, p, lt)) ∙ with_other s q i (Record under_all) (λ x. omega (arith, x, v, lt)))),
      r.extends s (Record under_all) u h o (under_all, with_here s q (Record under_all), e ∙ ap (λ fs. Record (extended_all fs under_all)) (sym same_fields)) (h.in_order x),
      with_other one row x u (λ y. omega (arith, y, p, lt)) ∙ with_other s q x (Record under_all) (λ y. omega (arith, y, v, lt)) ∙ sym (with_here one row u),
      with_other one row q u (λ y. omega (arith, y, p, v)) ∙ with_here s q (Record under_all),
    )
  where
    kept : (fs : Fields) → Each (IsType old) (terms_of fs) → fields_of (with_type s q (Record under_all)) fs ≡ fields_of s fs
    kept [] t = refl
    kept (f ∷ fs) t =
        let v = r.variable in let lt = t.0.0 in
        ap (λ g. (f.0, g) ∷ fields_of (with_type s q (Record under_all)) fs) (with_other s q f.1 (Record under_all) (λ x. omega (arith, x, v, lt)))
        ∙ ap (λ gs. (f.0, s f.1) ∷ gs) (kept fs t.1)

opened_tail : (old mid : List Node) (x q row v : ℕ) (fields : Fields) → Opened old mid x q row fields → IsTail old (Open v) → IsTail mid (Open v)
opened_tail old mid x q row v fields r t =
    subst (λ (nodes : List Node). IsTail nodes (Open v)) (sym r.added)
    (tail_pushed (old ++ End (shape.Variable Plain) ∷ []) (shape.Row fields (Some q)) v (tail_pushed old (shape.Variable Plain) v t))

opened_rest : (old mid : List Node) (x q row : ℕ) (fields : Fields) → Opened old mid x q row fields → IsTail mid (Open q)
opened_rest old mid x q row fields r = (
  (let l = opened_long old mid x q row fields r in let v = r.variable in omega (arith, l, v)),
  record { row = row; fields = fields; rest = q; stands = opened_row old mid x q row fields r; leads = itself },
  opened_new old mid x q row fields r,
)

pub opens_rest : (old mid new : List Node) (x q row : ℕ) (fields : Fields) → Opened old mid x q row fields → Each (IsType old) (terms_of fields) → IsBound mid new x row → OpensRest old new x fields q
opens_rest old mid new x q row fields r types b = record {
  sound = λ s h.
      let m = (b.solutions s).0 h in
      let o = (r.solutions s).0 m.0 in
      let q_record : s q ≡ Record o.1.0 = o.1.1 in
      (o.0, m.1 ∙ o.1.2 ∙ ap (λ z. Record (extended_all (fields_of s fields) z)) (sym (ap row_of q_record)));
  complete = λ s under_all h o e.
      let w = opened_with old mid x q row fields r types s under_all h o e in
      (w.0, w.1, (b.solutions w.0).1 (w.2, w.3), w.4);
  apart = b.apart;
  types = λ i t. b.types i (r.types i t);
  rests = λ v ne t. b.rests v ne (opened_tail old mid x q row v fields r t);
  rest = b.rests q (λ e. let v = r.variable in let lt = r.source.0 in omega (arith, e, v, lt)) (opened_rest old mid x q row fields r);
  place = let v = r.variable in omega (arith, v);
  longer = let l = opened_long old mid x q row fields r in let m = b.long in omega (arith, l, m);
  as_many =
      let f = b.fewer in
      let u = ap unlinked r.added ∙ unlinked_row (old ++ End (shape.Variable Plain) ∷ []) fields (Some q) ∙ unlinked_variable old in omega (arith, f, u);
}

pub open_refused : (old mid : List Node) (x q row : ℕ) (fields : Fields) → Opened old mid x q row fields → Each (IsType old) (terms_of fields) → ((s : Assignment) → Solves mid s → s x ≢ s row) →
    (s : Assignment) (under_all : Row) → Solves old s → RowInOrder under_all → s x ≡ Record (extended_all (fields_of s fields) under_all) → ⊥
open_refused old mid x q row fields r types never s under_all h o e =
    let w = opened_with old mid x q row fields r types s under_all h o e in never w.0 w.2 w.3

pub tail_end : (nodes : List Node) (x end : ℕ) → IsTail nodes (Open x) → LinksTo nodes end x → end ≡ x
tail_end nodes x end t leads = no_links nodes end x (λ l. subst IsLink t.2 l) leads

pub opens_at : (old new : List Node) (x end q : ℕ) (fields : Fields) → end ≡ x → OpensRest old new end fields q → OpensRest old new x fields q
opens_at old new x end q fields same o = subst (λ (j : ℕ). OpensRest old new j fields q) same o

pub fresh_end : (old one : List State) (variable q : ℕ) → variable ≡ length (nodes_of old) → one ≡ record { nodes = nodes_of old ++ End (shape.Variable Plain) ∷ []; notes = notes_of old } ∷ old →
    LinksTo (nodes_of one) q variable → q ≡ variable
fresh_end old one variable q place state leads =
    let is : node_at (nodes_of one) variable ≡ End (shape.Variable Plain)
    = ap (λ l. node_at (nodes_of l) variable) state ∙ ap (node_at (nodes_of old ++ End (shape.Variable Plain) ∷ [])) place ∙ node_at-new (nodes_of old) (End (shape.Variable Plain)) in
    no_links (nodes_of one) q variable (λ l. subst IsLink is l) leads

-- two rests --

record_order : (nodes : List Node) (s : Assignment) (v : ℕ) (q : Row) → Solves nodes s → s v ≡ Record q → RowInOrder q
record_order nodes s v q h e = subst InOrder e (h.in_order v)

in_order_under : (s : Assignment) (fs : Fields) (q : Row) → RowInOrder (extended_all (fields_of s fs) q) → RowInOrder q
in_order_under s [] q h = h
in_order_under s (f ∷ fs) q h = in_order_under s fs q (extended-in_order f.0 (s f.1) (extended_all (fields_of s fs) q) h).1

-- a solution in which the rows meet: what both rests have in common
record Meets (s : Assignment) (left right : Fields) (x y : ℕ) : Type 0 where
  row : Row
  order : RowInOrder row
  first : s x ≡ Record (extended_all (fields_of s right) row)
  second : s y ≡ Record (extended_all (fields_of s left) row)

meets : (nodes : List Node) (s : Assignment) (left right : Fields) (x y : ℕ) → CanSplit nodes left x right y → Solves nodes s →
    extended_all (fields_of s left) (row_of (s x)) ≡ extended_all (fields_of s right) (row_of (s y)) → Meets s left right x y
meets nodes s left right x y c h e =
    let w = apart_solve (fields_of s left) (fields_of s right) (row_of (s x)) (row_of (s y)) (fields_apart s left right c.apart) e in
    let first = rest_record nodes s x h c.first.1 ∙ ap Record w.1 in record {
      row = w.0;
      order = in_order_under s right w.0 (record_order nodes s x (extended_all (fields_of s right) w.0) h first);
      first = first;
      second = rest_record nodes s y h c.second.1 ∙ ap Record w.2;
    }

agree_fields : (n : ℕ) (s r : Assignment) (nodes : List Node) (fs : Fields) → n ≡ length nodes → Agree n s r → Each (IsType nodes) (terms_of fs) → fields_of s fs ≡ fields_of r fs
agree_fields n s r nodes [] e a t = refl
agree_fields n s r nodes (f ∷ fs) e a t =
    let lt = t.0.0 in
    ap (λ g. (f.0, g) ∷ fields_of s fs) (a f.1 (omega (arith, e, lt))) ∙ ap (λ gs. (f.0, r f.1) ∷ gs) (agree_fields n s r nodes fs e a t.1)

each_kept : (P Q : ℕ → Type 0) → ((k : ℕ) → P k → Q k) → (ks : List ℕ) → Each P ks → Each Q ks
each_kept P Q f [] h = tt
each_kept P Q f (k ∷ ks) h = (f k h.0, each_kept P Q f ks h.1)

pub can_extend_after : (old mid : List Node) (left right : Fields) (x y q : ℕ) → CanSplit old left x right y → OpensRest old mid x right q → CanExtend mid y left (Open q)
can_extend_after old mid left right x y q c o = record {
  source = o.rests y (λ e. c.other (sym e)) c.second;
  ends = o.rest;
  other = λ e. (let same : q ≡ y = cc e in let p = o.place in let lt = c.second.0 in omega (arith, same, p, lt));
  types = each_kept (IsType old) (IsType mid) o.types (terms_of left) c.left_types;
}

pub splits_taken : (old mid new : List Node) (left right : Fields) (x y q : ℕ) → CanSplit old left x right y → OpensRest old mid x right q → Takes mid new (Extends y left (Open q)) → Takes old new (Splits left x right y)
splits_taken old mid new left right x y q c o t = record {
  sound = λ s h.
      let m = t.sound s h in
      let w = o.sound s m.0 in (
        w.0,
        ap (λ z. extended_all (fields_of s left) (row_of z)) w.1
            ∙ apart_swap (fields_of s left) (fields_of s right) (row_of (s q)) (fields_apart s left right c.apart)
            ∙ sym (ap (λ z. extended_all (fields_of s right) (row_of z)) m.1),
      );
  complete = λ s h e.
      let m = meets old s left right x y c h e in
      let r = o.complete s m.row h m.order m.first in
      let at_y : r.0 y ≡ Record (extended_all (fields_of r.0 left) (row_of (r.0 q)))
      = sym (r.1 y c.second.0) ∙ m.second ∙ ap (λ fs. Record (extended_all fs m.row)) (agree_fields (length old) s r.0 old left refl r.1 c.left_types)
      ∙ ap (λ z. Record (extended_all (fields_of r.0 left) (row_of z))) (sym r.3) in
      let w = t.complete r.0 r.2 at_y in
      (w.0, (λ i lt. r.1 i lt ∙ w.1 i (let l = o.longer in omega (arith, l, lt))), w.2);
  apart = t.apart;
  types = λ i ty. t.types i (o.types i ty);
  longer = let a = o.longer in let b = t.longer in omega (arith, a, b);
  fewer = let a = o.as_many in let b = t.fewer in omega (arith, a, b);
}

pub splits_refused_first : (old : List Node) (left right : Fields) (x y : ℕ) → CanSplit old left x right y →
    ((s : Assignment) (row : Row) → Solves old s → RowInOrder row → s x ≢ Record (extended_all (fields_of s right) row)) →
    (s : Assignment) → Solves old s → extended_all (fields_of s left) (row_of (s x)) ≡ extended_all (fields_of s right) (row_of (s y)) → ⊥
splits_refused_first old left right x y c never s h e =
    let m = meets old s left right x y c h e in never s m.row h m.order m.first

pub splits_refused_second : (old mid : List Node) (left right : Fields) (x y q : ℕ) → CanSplit old left x right y → OpensRest old mid x right q →
    ((s : Assignment) → Solves mid s → s y ≡ Record (extended_all (fields_of s left) (row_of (s q))) → ⊥) →
    (s : Assignment) → Solves old s → extended_all (fields_of s left) (row_of (s x)) ≡ extended_all (fields_of s right) (row_of (s y)) → ⊥
splits_refused_second old mid left right x y q c o never s h e =
    let m = meets old s left right x y c h e in
    let r = o.complete s m.row h m.order m.first in
    never r.0 r.2 (sym (r.1 y c.second.0) ∙ m.second ∙ ap (λ fs. Record (extended_all fs m.row)) (agree_fields (length old) s r.0 old left refl r.1 c.left_types)
    ∙ ap (λ z. Record (extended_all (fields_of r.0 left) (row_of z))) (sym r.3))

-- a variable bound --

pub binds_taken : (old new : List Node) (at to : ℕ) → IsBound old new at to → Takes old new (Binds at to)
binds_taken old new at to b = record {
  sound = λ s h. (b.solutions s).0 h;
  complete = λ s h e. (s, (λ i lt. refl), (b.solutions s).1 (h, e));
  apart = b.apart;
  types = b.types;
  longer = let l = b.long in omega (arith, l);
  fewer = b.fewer;
}

pub binds_heavier : (nodes : List Node) (at to : ℕ) → CanBind nodes at to → (s : Assignment) → Solves nodes s → StandsIn nodes at to → s at ≢ s to
binds_heavier nodes at to c s h stands = variable_lighter nodes s at to h c.variable c.source.1 c.end c.other stands

pub takes_is : (old new : List Node) (step same : Step) → step ≡ same → Takes old new same → Takes old new step
takes_is old new step same e t = subst (Takes old new) (sym e) t

pub can_is : (nodes : List Node) (step same : Step) → step ≡ same → CanTake nodes step → CanTake nodes same
can_is nodes step same e t = subst (CanTake nodes) e t
