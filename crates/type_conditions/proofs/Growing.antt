-- Conditions that one call adds.
use Rattle.std.proofs.Common.{◌≡◌, ℕ, List, [], ◌∷◌, ◌++◌, ◌↔◌, length, length-append, refl, sym, ◌∙◌, ap, subst, arith, Some, None, Result, Ok, Err, OnOk, OnErr}
use Rattle.elm_typing.specs.declared.flag.Flag.TheVariants.{Plain}
use Rattle.elm_typing.specs.Ground.{Ground, Row, Record, Ends}
use Rattle.elm_typing.specs.Rows.{extended_all}
use Rattle.elm_typing.specs.Sorts.{Sort}
use Rattle.type_terms.specs.declared.node.Node.{Node}
use Rattle.type_terms.specs.declared.node.Node.TheVariants.{End}
use Rattle.type_terms.specs.declared.shape.Shape.{Shape}
use Rattle.type_terms.specs.declared.shape.Shape.TheVariants as shape
use Rattle.type_terms.specs.Depth.{AreNotesBelow, IsBelow as Below, IsSound, IsStored, doubled}
use Rattle.type_terms.specs.Solutions.{Assignment, Fits, FitsNode, Solves, AddsNoRest, IsNoNewRest, fields_of, with_type}
use Rattle.type_terms.specs.Terms.{State, nodes_of, notes_of, node_at, with_term, with_note, parts, terms_of, Each, IsLink, IsRest}
use Rattle.type_terms.proofs.Existence.{solved-record}
use Rattle.type_terms.proofs.Pushed.{solves-pushed, solves-extended}
use Rattle.type_terms.proofs.Sound.{links-end, node_at-new, sound-pushed}
use Rattle.type_unify.specs.declared.rows.Tail.{Tail}
use Rattle.type_unify.specs.declared.rows.Tail.TheVariants.{Closed, Rigid, Open}
use Rattle.type_unify.specs.Grown.{IsGrown}
use Rattle.type_unify.specs.Kept.{HasNoRest, Keeps, with_rest}
use Rattle.type_unify.specs.Rests.{IsType}
use Rattle.type_unify.specs.Steps.{IsTail, row_of, under}
use Rattle.type_unify.specs.Taken.{Agree, rest_term}
use Rattle.type_unify.specs.Unifying.{Unifies}
use Rattle.type_sorts.specs.Sorts.{Meets}
use Rattle.well_sorted.specs.Asking.{AreSorted}
use Rattle.type_conditions.specs.Conditions.{Asked, Excludes}
use Rattle.type_conditions.specs.Judging.{IsWell, Adds, Opens, HasFields, Restricts, AreEqual, IsBelow}
use Rattle.type_conditions.proofs.Agreeing.{agree-meets, agree-sorted, with_type-agrees, with_type-itself, sorted-append, sorted-apart, meets-append, meets-apart}

no_rest-adds : (nodes : List Node) (form : Shape) → HasNoRest form → AddsNoRest nodes form
no_rest-adds nodes (shape.Variable flag) h = tt
no_rest-adds nodes (shape.Opaque number flag) h = tt
no_rest-adds nodes (shape.Named name arguments) h = tt
no_rest-adds nodes (shape.Arrow from to) h = tt
no_rest-adds nodes (shape.Tuple ps) h = tt
no_rest-adds nodes (shape.Row fields None) h = tt
no_rest-adds nodes (shape.Row fields (Some rest)) h = absurd h

parts-below : (nodes : List Node) (ks : List ℕ) → Each (IsType nodes) ks → Each (Below (length nodes)) ks
parts-below nodes [] h = tt
parts-below nodes (k ∷ ks) h = (h.0.0, parts-below nodes ks h.1)

-- a term more, whose type is to be well sorted
term-added : (states : List State) (proper : List ℕ) (form : Shape) → IsStored states → AreNotesBelow (length (nodes_of states)) (notes_of states) →
    Each (IsType (nodes_of states)) proper → Each (Below (length (nodes_of states))) (parts form) → AddsNoRest (nodes_of states) form →
    Keeps (nodes_of states) (nodes_of (with_term form states)) → IsType (nodes_of (with_term form states)) (length (nodes_of states)) →
    Adds (record { states = states; proper = proper }) (record { states = with_term form states; proper = proper ++ length (nodes_of states) ∷ [] })
    (λ chosen s type. IsWell chosen type × Fits ⊥ s type form) (length (nodes_of states))
term-added states proper form sound below types inside adds keeps is_type = record {
  grows = record {
    sound = λ chosen s h. record {
      solves = (solved s h.solves).0;
      meets = h.meets;
      sorted = (sorted-apart chosen s proper (length nodes ∷ []) h.sorted).0;
    };
    types = keeps.types;
    longer = (let l = length-append nodes (End form ∷ []) in omega (arith, l));
    behind = (record { nodes = nodes ++ End form ∷ []; notes = notes_of states } ∷ [], refl);
    after = (length nodes ∷ [], refl);
  };
  has = λ chosen s h. (
    record { sorted = (sorted-apart chosen s proper (length nodes ∷ []) h.sorted).1.0; ordered = h.solves.in_order (length nodes) },
    (solved s h.solves).1,
  );
  complete = λ chosen s type h p. (
    with_type s (length nodes) type,
    with_type-agrees (length nodes) s type,
    record {
      solves = solves-extended nodes (doubled (length states)) form s type sound inside adds h.solves p.1 p.0.ordered;
      meets = agree-meets (length nodes) s (with_type s (length nodes) type) chosen (notes_of states) (with_type-agrees (length nodes) s type) below h.meets;
      sorted = sorted-append chosen (with_type s (length nodes) type) proper (length nodes ∷ [])
          (agree-sorted nodes s (with_type s (length nodes) type) chosen proper (with_type-agrees (length nodes) s type) types h.sorted)
          (subst (λ (t : Ground). AreSorted chosen (λ i. t) (length nodes ∷ [])) (sym (with_type-itself (length nodes) s type)) (p.0.sorted, tt));
    },
    with_type-itself (length nodes) s type,
  );
  is_type = is_type;
}
  where
    nodes : List Node
    nodes = nodes_of states

    solved : (s : Assignment) → Solves (nodes_of (with_term form states)) s → Solves (nodes_of states) s × Fits ⊥ s (s (length (nodes_of states))) form
    solved s h = (solves-pushed (nodes_of states) (doubled (length states)) form s sound inside adds).0 h

added : (states after : List State) (proper proper' : List ℕ) (form : Shape) (at : ℕ) → IsStored states → AreNotesBelow (length (nodes_of states)) (notes_of states) →
    Each (IsType (nodes_of states)) proper → Each (Below (length (nodes_of states))) (parts form) → AddsNoRest (nodes_of states) form →
    Keeps (nodes_of states) (nodes_of after) → IsType (nodes_of after) at → at ≡ length (nodes_of states) → after ≡ with_term form states → proper' ≡ proper ++ at ∷ [] →
    Adds (record { states = states; proper = proper }) (record { states = after; proper = proper' }) (λ chosen s type. IsWell chosen type × Fits ⊥ s type form) at
added states after proper proper' form at sound below types inside none keeps is_type ea es ep =
    let start : Asked = record { states = states; proper = proper } in
    let judged = λ (chosen : ℕ → Sort) (s : Assignment) (type : Ground). IsWell chosen type × Fits ⊥ s type form in
    subst (λ (l : List ℕ). Adds start (record { states = after; proper = l }) judged at) (sym ep)
    (subst (λ (k : ℕ). Adds start (record { states = after; proper = proper ++ k ∷ [] }) judged k) (sym ea)
    (subst (λ (l : List State). Adds start (record { states = l; proper = proper ++ length (nodes_of states) ∷ [] }) judged (length (nodes_of states))) (sym es)
    (term-added states proper form sound below types inside none
    (subst (λ (l : List State). Keeps (nodes_of states) (nodes_of l)) es keeps)
    (subst (λ (k : ℕ). IsType (nodes_of (with_term form states)) k) ea (subst (λ (l : List State). IsType (nodes_of l) at) es is_type)))))

pub made : (states after : List State) (proper proper' : List ℕ) (form : Shape) (at : ℕ) → IsStored states → AreNotesBelow (length (nodes_of states)) (notes_of states) →
    Each (IsType (nodes_of states)) proper → Each (IsType (nodes_of states)) (parts form) → HasNoRest form →
    Keeps (nodes_of states) (nodes_of after) → IsType (nodes_of after) at → at ≡ length (nodes_of states) → after ≡ with_term form states → proper' ≡ proper ++ at ∷ [] →
    Adds (record { states = states; proper = proper }) (record { states = after; proper = proper' }) (λ chosen s type. IsWell chosen type × Fits ⊥ s type form) at
made states after proper proper' form at sound below types inside none keeps is_type ea es ep =
    added states after proper proper' form at sound below types (parts-below (nodes_of states) (parts form) inside) (no_rest-adds (nodes_of states) form none) keeps is_type ea es ep

-- rows --

tail-adds : (nodes : List Node) (fields : List (List ℕ × ℕ)) (tail : Tail) → IsTail nodes tail → AddsNoRest nodes (shape.Row fields (rest_term tail))
tail-adds nodes fields Closed t = tt
tail-adds nodes fields (Rigid at number) t = λ end n flag leads e.
    subst (IsRest nodes) (links-end nodes end at leads (λ l. subst IsLink t.2 l)) t.1
tail-adds nodes fields (Open at) t = λ end n flag leads e.
    let same = links-end nodes end at leads (λ l. subst IsLink t.2 l) in
    let f : End (shape.Variable Plain) ≡ End (shape.Opaque n flag) = sym t.2 ∙ ap (node_at nodes) same ∙ e in
    absurd (cc f)

tail-below : (nodes : List Node) (fields : List (List ℕ × ℕ)) (tail : Tail) → IsTail nodes tail → Each (Below (length nodes)) (terms_of fields) →
    Each (Below (length nodes)) (parts (shape.Row fields (rest_term tail)))
tail-below nodes fields Closed t h = h
tail-below nodes fields (Rigid at number) t h = (t.0, h)
tail-below nodes fields (Open at) t h = (t.0, h)

-- the row that the tail ends
row-at : (nodes : List Node) (s : Assignment) (at : ℕ) (row : Row) → s at ≡ Record row → row_of (s at) ≡ row
row-at nodes s at row e = ap row_of e

row-fits : (nodes : List Node) (s : Assignment) (type : Ground) (fields : List (List ℕ × ℕ)) (tail : Tail) → Solves nodes s → IsTail nodes tail →
    Fits ⊥ s type (shape.Row fields (rest_term tail)) ↔ (type ≡ Record (extended_all (fields_of s fields) (under s tail)))
row-fits nodes s type fields Closed h t = (λ f. f, λ f. f)
row-fits nodes s type fields (Rigid at number) h t =
    let is : s at ≡ Record (Ends (Some number)) = (subst (FitsNode (IsRest nodes at) s (s at)) t.2 (h.fits at)).0 t.1 in (
      λ f. f.2 ∙ ap (λ (r : Row). Record (extended_all (fields_of s fields) r)) (sym (row-at nodes s at f.0 f.1) ∙ row-at nodes s at (Ends (Some number)) is),
      λ e. (Ends (Some number), is, e),
    )
row-fits nodes s type fields (Open at) h t =
    let r = solved-record nodes s at h t.1 in (
      λ f. f.2 ∙ ap (λ (r : Row). Record (extended_all (fields_of s fields) r)) (sym (row-at nodes s at f.0 f.1)),
      λ e. (r.0, r.1, e ∙ ap (λ (q : Row). Record (extended_all (fields_of s fields) q)) (row-at nodes s at r.0 r.1)),
    )

row-added : (states : List State) (proper : List ℕ) (fields : List (List ℕ × ℕ)) (tail : Tail) (new : Asked) (at : ℕ) → IsTail (nodes_of states) tail →
    Adds (record { states = states; proper = proper }) new (λ chosen s type. IsWell chosen type × Fits ⊥ s type (shape.Row fields (rest_term tail))) at →
    Adds (record { states = states; proper = proper }) new (HasFields fields tail) at
row-added states proper fields tail new at t a = record {
  grows = a.grows;
  has = λ chosen s h.
      let k = a.has chosen s h in
      (k.0, (row-fits (nodes_of states) s (s at) fields tail (a.grows.sound chosen s h).solves t).0 k.1);
  complete = λ chosen s type h p. a.complete chosen s type h (p.0, (row-fits (nodes_of states) s type fields tail h.solves t).1 p.1);
  is_type = a.is_type;
}

pub row-made : (states after : List State) (proper proper' : List ℕ) (fields : List (List ℕ × ℕ)) (tail : Tail) (at : ℕ) → IsStored states → AreNotesBelow (length (nodes_of states)) (notes_of states) →
    Each (IsType (nodes_of states)) proper → Each (IsType (nodes_of states)) (terms_of fields) → IsTail (nodes_of states) tail →
    Keeps (nodes_of states) (nodes_of after) → IsType (nodes_of after) at → at ≡ length (nodes_of states) → after ≡ with_term (shape.Row fields (rest_term tail)) states → proper' ≡ proper ++ at ∷ [] →
    Adds (record { states = states; proper = proper }) (record { states = after; proper = proper' }) (HasFields fields tail) at
row-made states after proper proper' fields tail at sound below types inside t keeps is_type ea es ep =
    row-added states proper fields tail (record { states = after; proper = proper' }) at t
    (added states after proper proper' (shape.Row fields (rest_term tail)) at sound below types
    (tail-below (nodes_of states) fields tail t (parts-below (nodes_of states) (terms_of fields) inside)) (tail-adds (nodes_of states) fields tail t) keeps is_type ea es ep)

-- a tail that may end any row
pub opened : (states after : List State) (proper : List ℕ) (tail : Tail) → IsStored states → IsStored after → AreNotesBelow (length (nodes_of states)) (notes_of states) →
    Each (IsType (nodes_of states)) proper → Keeps (nodes_of states) (nodes_of after) → IsTail (nodes_of after) tail →
    tail ≡ Open (length (nodes_of states)) → after ≡ with_rest (shape.Variable Plain) states →
    Opens (record { states = states; proper = proper }) (record { states = after; proper = proper }) tail
opened states after proper tail sound grown below types keeps is_tail et es =
    subst (λ (l : List State). Opens (record { states = states; proper = proper }) (record { states = l; proper = proper }) tail) (sym es)
    (subst (λ (t : Tail). Opens (record { states = states; proper = proper }) (record { states = with_rest (shape.Variable Plain) states; proper = proper }) t) (sym et) (record {
      grows = record {
        sound = λ chosen s h. record { solves = (first s (second s h.solves).0).0; meets = h.meets; sorted = h.sorted };
        types = (subst (λ (l : List State). Keeps (nodes_of states) (nodes_of l)) es keeps).types;
        longer = (let l = length-append (nodes ++ leaf ∷ []) (row ∷ []) in let m = length-append nodes (leaf ∷ []) in omega (arith, l, m));
        behind = (record { nodes = (nodes ++ leaf ∷ []) ++ row ∷ []; notes = notes_of states } ∷ record { nodes = nodes ++ leaf ∷ []; notes = notes_of states } ∷ [], refl);
        after = ([], sym (append_nothing proper));
      };
      tails = (subst (λ (l : List State). Keeps (nodes_of states) (nodes_of l)) es keeps).tails;
      variable = n;
      is_open = refl;
      is_tail = subst (λ (t : Tail). IsTail (nodes_of (with_rest (shape.Variable Plain) states)) t) et (subst (λ (l : List State). IsTail (nodes_of l) tail) es is_tail);
      complete = λ chosen s line h order.
          let one = with_type s n (Record line) in
          let two = with_type one (length (nodes ++ leaf ∷ [])) (Record line) in
          let a = with_type-agrees n s (Record line) in
          let b = with_type-agrees (length (nodes ++ leaf ∷ [])) one (Record line) in
          let agree : Agree n s two = λ i lt. a i lt ∙ b i (omega (arith, lt, length-append nodes (leaf ∷ []))) in
          let here : two n ≡ Record line = sym (b n (omega (arith, length-append nodes (leaf ∷ [])))) ∙ with_type-itself n s (Record line) in
          let solved = solves-extended nodes (doubled (length states)) (shape.Variable Plain) s (Record line) sound tt tt h.solves tt order in (
            two,
            agree,
            record {
              solves = solves-extended (nodes ++ leaf ∷ []) (doubled (length (with_term (shape.Variable Plain) states))) (shape.Row [] (Some n)) one (Record line) middle inside no_new solved
                  (line, with_type-itself n s (Record line), refl) order;
              meets = agree-meets n s two chosen (notes_of states) agree below h.meets;
              sorted = agree-sorted nodes s two chosen proper agree types h.sorted;
            },
            row-at nodes two n line here,
          );
    }))
  where
    nodes : List Node
    nodes = nodes_of states

    n : ℕ
    n = length (nodes_of states)

    leaf : Node
    leaf = End (shape.Variable Plain)

    row : Node
    row = End (shape.Row [] (Some (length (nodes_of states))))

    append_nothing : (l : List ℕ) → l ++ [] ≡ l
    append_nothing [] = refl
    append_nothing (x ∷ xs) = ap (λ (t : List ℕ). x ∷ t) (append_nothing xs)

    middle : IsSound (nodes_of states ++ End (shape.Variable Plain) ∷ []) (doubled (length (with_term (shape.Variable Plain) states)))
    middle =
        let whole = (subst (λ (l : List State). IsSound (nodes_of l) (doubled (length l))) es grown).small in
        let l = length-append (nodes_of states ++ End (shape.Variable Plain) ∷ []) (End (shape.Row [] (Some (length (nodes_of states)))) ∷ []) in
        let m = length-append (nodes_of states) (End (shape.Variable Plain) ∷ []) in
        sound-pushed (nodes_of states) (length states) (End (shape.Variable Plain)) sound (omega (arith, whole, l, m)) tt

    inside : Each (Below (length (nodes_of states ++ End (shape.Variable Plain) ∷ []))) (length (nodes_of states) ∷ [])
    inside = ((let m = length-append (nodes_of states) (End (shape.Variable Plain) ∷ []) in omega (arith, m)), tt)

    no_new : IsNoNewRest (nodes_of states ++ End (shape.Variable Plain) ∷ []) (length (nodes_of states))
    no_new = λ end k flag leads e.
        let here = node_at-new (nodes_of states) (End (shape.Variable Plain)) in
        let same = links-end (nodes_of states ++ End (shape.Variable Plain) ∷ []) end (length (nodes_of states)) leads (λ l. subst IsLink here l) in
        let f : End (shape.Variable Plain) ≡ End (shape.Opaque k flag) = sym here ∙ ap (node_at (nodes_of states ++ End (shape.Variable Plain) ∷ [])) same ∙ e in
        absurd (cc f)

    first : (s : Assignment) → Solves (nodes_of states ++ End (shape.Variable Plain) ∷ []) s → Solves (nodes_of states) s × Fits ⊥ s (s (length (nodes_of states))) (shape.Variable Plain)
    first s h = (solves-pushed (nodes_of states) (doubled (length states)) (shape.Variable Plain) s sound tt tt).0 h

    second : (s : Assignment) → Solves ((nodes_of states ++ End (shape.Variable Plain) ∷ []) ++ End (shape.Row [] (Some (length (nodes_of states)))) ∷ []) s →
        Solves (nodes_of states ++ End (shape.Variable Plain) ∷ []) s × Fits ⊥ s (s (length (nodes_of states ++ End (shape.Variable Plain) ∷ []))) (shape.Row [] (Some (length (nodes_of states))))
    second s h = (solves-pushed (nodes_of states ++ End (shape.Variable Plain) ∷ []) (doubled (length (with_term (shape.Variable Plain) states))) (shape.Row [] (Some (length (nodes_of states)))) s middle inside no_new).0 h

pub equated : (states after : List State) (proper : List ℕ) (a b : ℕ) → AreNotesBelow (length (nodes_of states)) (notes_of states) → Each (IsType (nodes_of states)) proper →
    IsGrown states after → Unifies (nodes_of states) (nodes_of after) a b →
    Restricts (record { states = states; proper = proper }) (record { states = after; proper = proper }) (AreEqual a b)
equated states after proper a b below types grown u = record {
  grows = record {
    sound = λ chosen s h. record { solves = u.sound s h.solves; meets = subst (Meets s chosen) grown.notes h.meets; sorted = h.sorted };
    types = u.types;
    longer = u.longer;
    behind = (grown.changes, grown.behind);
    after = ([], (sym (append_nothing proper)));
  };
  has = λ chosen s h. u.equal s h.solves;
  complete = λ chosen s h e.
      let r = u.complete s h.solves e in (
        r.0,
        r.1,
        record {
          solves = r.2;
          meets = subst (Meets r.0 chosen) (sym grown.notes) (agree-meets (length (nodes_of states)) s r.0 chosen (notes_of states) r.1 below h.meets);
          sorted = agree-sorted (nodes_of states) s r.0 chosen proper r.1 types h.sorted;
        },
      );
}
  where
    append_nothing : (l : List ℕ) → l ++ [] ≡ l
    append_nothing [] = refl
    append_nothing (x ∷ xs) = ap (λ (t : List ℕ). x ∷ t) (append_nothing xs)

pub excluded : (states : List State) (proper : List ℕ) (a b : ℕ) → ((s : Assignment) → Solves (nodes_of states) s → s a ≡ s b → ⊥) →
    Excludes (record { states = states; proper = proper }) (AreEqual a b)
excluded states proper a b never chosen s h e = never s h.solves e

pub noted : (states after : List State) (proper : List ℕ) (a b : ℕ) → after ≡ with_note a b states →
    Restricts (record { states = states; proper = proper }) (record { states = after; proper = proper }) (IsBelow a b)
noted states after proper a b e =
    subst (λ (l : List State). Restricts (record { states = states; proper = proper }) (record { states = l; proper = proper }) (IsBelow a b)) (sym e)
    (record {
      grows = record {
        sound = λ chosen s h. record { solves = h.solves; meets = (meets-apart s chosen (notes_of states) ((a, b) ∷ []) h.meets).0; sorted = h.sorted };
        types = λ i t. t;
        longer = omega arith;
        behind = (record { nodes = nodes_of states; notes = notes_of states ++ (a, b) ∷ [] } ∷ [], refl);
        after = ([], sym (append_nothing proper));
      };
      has = λ chosen s h. (meets-apart s chosen (notes_of states) ((a, b) ∷ []) h.meets).1.0;
      complete = λ chosen s h q. (s, λ i lt. refl, record { solves = h.solves; meets = meets-append s chosen (notes_of states) ((a, b) ∷ []) h.meets (q, tt); sorted = h.sorted });
    })
  where
    append_nothing : (l : List ℕ) → l ++ [] ≡ l
    append_nothing [] = refl
    append_nothing (x ∷ xs) = ap (λ (t : List ℕ). x ∷ t) (append_nothing xs)

-- the terms that are to be well sorted stay types
each-types : (old new : List Node) (ks : List ℕ) → ((i : ℕ) → IsType old i → IsType new i) → Each (IsType old) ks → Each (IsType new) ks
each-types old new [] keeps h = tt
each-types old new (k ∷ ks) keeps h = (keeps k h.0, each-types old new ks keeps h.1)

pub each-kept : (old new : List State) (ks ls : List ℕ) → Keeps (nodes_of old) (nodes_of new) → ls ≡ ks → Each (IsType (nodes_of old)) ks → Each (IsType (nodes_of new)) ls
each-kept old new ks ls keeps e h = subst (Each (IsType (nodes_of new))) (sym e) (each-types (nodes_of old) (nodes_of new) ks keeps.types h)

pub each-pushed : (old new : List State) (ks ls : List ℕ) (at : ℕ) → Keeps (nodes_of old) (nodes_of new) → IsType (nodes_of new) at → ls ≡ ks ++ at ∷ [] →
    Each (IsType (nodes_of old)) ks → Each (IsType (nodes_of new)) ls
each-pushed old new ks ls at keeps is e h =
    subst (Each (IsType (nodes_of new))) (sym e) (each-behind ks (each-types (nodes_of old) (nodes_of new) ks keeps.types h))
  where
    each-behind : (ks : List ℕ) → Each (IsType (nodes_of new)) ks → Each (IsType (nodes_of new)) (ks ++ at ∷ [])
    each-behind [] h = (is, tt)
    each-behind (k ∷ ks) h = (h.0, each-behind ks h.1)

pub types-kept : {A E : Type 0} (result : Result A E) (old new : List State) (ks : List ℕ) (a b : ℕ) → OnOk result (Unifies (nodes_of old) (nodes_of new) a b) →
    OnErr result (new ≡ old) → Each (IsType (nodes_of old)) ks → Each (IsType (nodes_of new)) ks
types-kept (Ok x) old new ks a b unified same h = each-types (nodes_of old) (nodes_of new) ks unified.types h
types-kept (Err e) old new ks a b unified same h = subst (λ (l : List State). Each (IsType (nodes_of l)) ks) (sym same) h

pub on_ok : {A E : Type 0} (r : Result A E) (P Q : Type 0) → (P → Q) → OnOk r P → OnOk r Q
on_ok (Ok a) P Q f h = f h
on_ok (Err e) P Q f h = tt
