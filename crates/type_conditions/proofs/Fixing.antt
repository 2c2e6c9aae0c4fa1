-- An opaque rest, and a row over it: the opaque type becomes the rest of a row with that row.
use Rattle.std.proofs.Common.{◌≡◌, ℕ, ◌<◌, List, [], ◌∷◌, ◌++◌, length, length-append, refl, sym, ◌∙◌, ap, subst, arith, inl, inr, Some, None}
use native.Mathlib.Decide.{dec_lt}
use Rattle.elm_typing.specs.declared.flag.Flag.TheVariants.{Plain}
use Rattle.elm_typing.specs.Flags.{HasFlag}
use Rattle.elm_typing.specs.Ground.{Ground, Named, Tuple, Record, Ends}
use Rattle.elm_typing.specs.Ordered.{InOrder}
use Rattle.elm_typing.specs.Rows.{extended_all}
use Rattle.type_terms.specs.declared.node.Node.{Node}
use Rattle.type_terms.specs.declared.node.Node.TheVariants.{End, Link}
use Rattle.type_terms.specs.declared.shape.Shape.TheVariants as shape
use Rattle.type_terms.specs.Depth.{AreNotesBelow, IsBelow as Below, IsSound, IsStored, doubled}
use Rattle.type_terms.specs.Solutions.{Assignment, FitsNode, Solves, with_type}
use Rattle.type_terms.specs.Terms.{State, nodes_of, notes_of, node_at, below, Each, IsLink, IsRest, itself}
use Rattle.type_terms.proofs.Composed.{Same, types_of-same, fields_of-same, with-cases}
use Rattle.type_terms.proofs.Lists.{Each-map}
use Rattle.type_terms.proofs.Pushed.{links-pushed, pushed-kept, rest-kept}
use Rattle.type_terms.proofs.Solved.{FitsNode-rest}
use Rattle.type_terms.proofs.Sound.{links-end, node_at-new, node_at-old, node_at-past, by_place}
use Rattle.type_unify.specs.declared.rows.Tail.{Tail}
use Rattle.type_unify.specs.declared.rows.Tail.TheVariants.{Rigid}
use Rattle.type_unify.specs.Kept.{Keeps, with_rest}
use Rattle.type_unify.specs.Rests.{IsType}
use Rattle.type_unify.specs.Steps.{IsTail}
use Rattle.type_unify.specs.Taken.{Agree}
use Rattle.type_conditions.specs.Judging.{Fixes}
use Rattle.type_conditions.proofs.Agreeing.{agree-meets, agree-sorted, with_type-agrees, with_type-itself}

fits-same : (Rest : Type 0) (s r : Assignment) (t u : Ground) (node : Node) → Each (Same s r) (below node) → t ≡ u → FitsNode Rest s t node → FitsNode Rest r u node
fits-same Rest s r t u (Link to) same e h = sym e ∙ h ∙ same.0
fits-same Rest s r t u (End (shape.Variable flag)) same e h = subst (HasFlag flag) e h
fits-same Rest s r t u (End (shape.Opaque number flag)) same e h = (λ q. sym e ∙ h.0 q, λ n. sym e ∙ h.1 n)
fits-same Rest s r t u (End (shape.Named name arguments)) same e h = sym e ∙ h ∙ ap (Named name) (types_of-same s r arguments same)
fits-same Rest s r t u (End (shape.Arrow from to)) same e h = sym e ∙ h ∙ cc (same.0, same.1.0)
fits-same Rest s r t u (End (shape.Tuple ps)) same e h = sym e ∙ h ∙ ap Tuple (types_of-same s r ps same)
fits-same Rest s r t u (End (shape.Row fields None)) same e h =
    sym e ∙ h ∙ ap (λ (l : List (List ℕ × Ground)). Record (extended_all l (Ends None))) (fields_of-same s r fields same)
fits-same Rest s r t u (End (shape.Row fields (Some rest))) same e h =
    (h.0, sym same.0 ∙ h.1, sym e ∙ h.2 ∙ ap (λ (l : List (List ℕ × Ground)). Record (extended_all l h.0)) (fields_of-same s r fields same.1))

-- the nodes with the opaque type, and with the row over it
abbrev with_leaf : List Node → ℕ → List Node
with_leaf nodes number = nodes ++ End (shape.Opaque number Plain) ∷ []

abbrev with_row : List Node → ℕ → List Node
with_row nodes number = with_leaf nodes number ++ End (shape.Row [] (Some (length nodes))) ∷ []

leaf-long : (nodes : List Node) (number i : ℕ) → i < length nodes → i < length (with_leaf nodes number)
leaf-long nodes number i lt = let l = length-append nodes (End (shape.Opaque number Plain) ∷ []) in omega (arith, lt, l)

leaf-place : (nodes : List Node) (number : ℕ) → length nodes < length (with_leaf nodes number)
leaf-place nodes number = let l = length-append nodes (End (shape.Opaque number Plain) ∷ []) in omega (arith, l)

old-node : (nodes : List Node) (number i : ℕ) → i < length nodes → node_at (with_row nodes number) i ≡ node_at nodes i
old-node nodes number i lt =
    node_at-old (with_leaf nodes number) (End (shape.Row [] (Some (length nodes)))) i (leaf-long nodes number i lt)
    ∙ node_at-old nodes (End (shape.Opaque number Plain)) i lt

leaf-node : (nodes : List Node) (number : ℕ) → node_at (with_row nodes number) (length nodes) ≡ End (shape.Opaque number Plain)
leaf-node nodes number =
    node_at-old (with_leaf nodes number) (End (shape.Row [] (Some (length nodes)))) (length nodes) (leaf-place nodes number)
    ∙ node_at-new nodes (End (shape.Opaque number Plain))

rest-back : (nodes : List Node) (number i : ℕ) → i < length nodes → IsRest (with_row nodes number) i → IsRest nodes i
rest-back nodes number i lt h =
    elim (pushed-kept (with_leaf nodes number) (End (shape.Row [] (Some (length nodes)))) (End (shape.Row h.fields (Some h.rest))) h.row (λ v. v) h.stands) as (λ _. IsRest nodes i) [
      | inl e ↦ elim (pushed-kept nodes (End (shape.Opaque number Plain)) (End (shape.Row h.fields (Some h.rest))) h.row (λ v. v) e) as (λ _. IsRest nodes i) [
        | inl f ↦ record {
          row = h.row;
          fields = h.fields;
          rest = h.rest;
          stands = f;
          leads = links-pushed nodes (shape.Opaque number Plain) i h.rest (links-pushed (with_leaf nodes number) (shape.Row [] (Some (length nodes))) i h.rest h.leads);
        }
        | inr g ↦ absurd (cc g.1)
      ]
      | inr g ↦ (let is : h.rest ≡ length nodes = rest-is h.fields h.rest g.1 in
          let here : node_at (with_row nodes number) h.rest ≡ End (shape.Opaque number Plain) = ap (node_at (with_row nodes number)) is ∙ leaf-node nodes number in
          let same : h.rest ≡ i = links-end (with_row nodes number) i h.rest h.leads (λ l. subst IsLink here l) in
          absurd (omega (arith, lt, is, same)))
    ]
  where
    rest-is : (fields : List (List ℕ × ℕ)) (rest : ℕ) → End (shape.Row [] (Some (length nodes))) ≡ End (shape.Row fields (Some rest)) → rest ≡ length nodes
    rest-is fields rest e = cc e

rest-on : (nodes : List Node) (number i : ℕ) → IsRest nodes i → IsRest (with_row nodes number) i
rest-on nodes number i h =
    rest-kept (with_leaf nodes number) (End (shape.Row [] (Some (length nodes)))) i (rest-kept nodes (End (shape.Opaque number Plain)) i h)

leaf-rest : (nodes : List Node) (number : ℕ) → IsRest (with_row nodes number) (length nodes)
leaf-rest nodes number = record {
  row = length (with_leaf nodes number);
  fields = [];
  rest = length nodes;
  stands = node_at-new (with_leaf nodes number) (End (shape.Row [] (Some (length nodes))));
  leads = itself;
}

solves-before : (nodes : List Node) (number : ℕ) (s : Assignment) → Solves (with_row nodes number) s → Solves nodes s
solves-before nodes number s h = record {
  in_order = h.in_order;
  fits = λ i. elim (dec_lt i (length nodes)) as (λ _. FitsNode (IsRest nodes i) s (s i) (node_at nodes i)) [
    | yes lt ↦ FitsNode-rest (IsRest (with_row nodes number) i) (IsRest nodes i) s (s i) (node_at nodes i)
        (λ _ r. rest-back nodes number i lt r) (λ _ r. rest-on nodes number i r)
        (subst (FitsNode (IsRest (with_row nodes number) i) s (s i)) (old-node nodes number i lt) (h.fits i))
    | no ge ↦ subst (FitsNode (IsRest nodes i) s (s i)) (sym (node_at-past nodes i (omega arith))) tt
  ];
}

-- the record without fields over the opaque rest
abbrev bare : ℕ → Ground
bare number = Record (Ends (Some number))

abbrev with_bare : List Node → ℕ → Assignment → Assignment
with_bare nodes number s = with_type (with_type s (length nodes) (bare number)) (length (with_leaf nodes number)) (bare number)

bare-agrees : (nodes : List Node) (number : ℕ) (s : Assignment) → Agree (length nodes) s (with_bare nodes number s)
bare-agrees nodes number s i lt =
    with_type-agrees (length nodes) s (bare number) i lt
    ∙ with_type-agrees (length (with_leaf nodes number)) (with_type s (length nodes) (bare number)) (bare number) i (leaf-long nodes number i lt)

bare-leaf : (nodes : List Node) (number : ℕ) (s : Assignment) → with_bare nodes number s (length nodes) ≡ bare number
bare-leaf nodes number s =
    sym (with_type-agrees (length (with_leaf nodes number)) (with_type s (length nodes) (bare number)) (bare number) (length nodes) (leaf-place nodes number))
    ∙ with_type-itself (length nodes) s (bare number)

typed-in_order : (s : Assignment) (at : ℕ) (type : Ground) → ((i : ℕ) → InOrder (s i)) → InOrder type → (i : ℕ) → InOrder (with_type s at type i)
typed-in_order s at type h order i =
    elim (with-cases s at type i) as (λ _. InOrder (with_type s at type i))
    [ inl w ↦ subst InOrder (sym w.1) order | inr w ↦ subst InOrder (sym w.1) (h i) ]

solves-after : (nodes : List Node) (bound number : ℕ) (s : Assignment) → IsSound nodes bound → Solves nodes s → Solves (with_row nodes number) (with_bare nodes number s)
solves-after nodes bound number s sound h = record {
  in_order = typed-in_order (with_type s (length nodes) (bare number)) (length (with_leaf nodes number)) (bare number)
      (typed-in_order s (length nodes) (bare number) h.in_order tt) tt;
  fits = by_place (λ i node. FitsNode (IsRest (with_row nodes number) i) r (r i) node) (with_leaf nodes number) (End (shape.Row [] (Some (length nodes))))
      (λ i lt. by_place (λ j node. FitsNode (IsRest (with_row nodes number) j) r (r j) node) nodes (End (shape.Opaque number Plain)) old new (λ j. tt) i)
      (Ends (Some number), bare-leaf nodes number s, with_type-itself (length (with_leaf nodes number)) (with_type s (length nodes) (bare number)) (bare number))
      (λ i. tt);
}
  where
    r : Assignment
    r = with_bare nodes number s

    old : (i : ℕ) → i < length nodes → FitsNode (IsRest (with_row nodes number) i) (with_bare nodes number s) (with_bare nodes number s i) (node_at nodes i)
    old i lt =
        FitsNode-rest (IsRest nodes i) (IsRest (with_row nodes number) i) (with_bare nodes number s) (with_bare nodes number s i) (node_at nodes i)
        (λ _ q. rest-on nodes number i q) (λ _ q. rest-back nodes number i lt q)
        (fits-same (IsRest nodes i) s (with_bare nodes number s) (s i) (with_bare nodes number s i) (node_at nodes i)
        (Each-map (Below (length nodes)) (Same s (with_bare nodes number s)) (λ k le. bare-agrees nodes number s k le) (below (node_at nodes i)) (sound.inside i))
        (bare-agrees nodes number s i lt) (h.fits i))

    new : FitsNode (IsRest (with_row nodes number) (length nodes)) (with_bare nodes number s) (with_bare nodes number s (length nodes)) (End (shape.Opaque number Plain))
    new = (λ _. bare-leaf nodes number s, λ not. absurd (not (leaf-rest nodes number)))

pub fixed : (states after : List State) (proper : List ℕ) (number : ℕ) (tail : Tail) → IsStored states → AreNotesBelow (length (nodes_of states)) (notes_of states) →
    Each (IsType (nodes_of states)) proper → Keeps (nodes_of states) (nodes_of after) → IsTail (nodes_of after) tail →
    tail ≡ Rigid (length (nodes_of states)) number → after ≡ with_rest (shape.Opaque number Plain) states →
    Fixes (record { states = states; proper = proper }) (record { states = after; proper = proper }) number tail
fixed states after proper number tail sound below types keeps is_tail et es =
    subst (λ (l : List State). Fixes (record { states = states; proper = proper }) (record { states = l; proper = proper }) number tail) (sym es) (record {
      grows = record {
        sound = λ chosen s h. record { solves = solves-before (nodes_of states) number s h.solves; meets = h.meets; sorted = h.sorted };
        types = (subst (λ (l : List State). Keeps (nodes_of states) (nodes_of l)) es keeps).types;
        longer =
            (let l = length-append (with_leaf (nodes_of states) number) (End (shape.Row [] (Some (length (nodes_of states)))) ∷ []) in
            let m = length-append (nodes_of states) (End (shape.Opaque number Plain) ∷ []) in omega (arith, l, m));
        behind = (record { nodes = with_row (nodes_of states) number; notes = notes_of states } ∷ record { nodes = with_leaf (nodes_of states) number; notes = notes_of states } ∷ [], refl);
        after = ([], sym (append_nothing proper));
      };
      tails = (subst (λ (l : List State). Keeps (nodes_of states) (nodes_of l)) es keeps).tails;
      place = length (nodes_of states);
      is_rigid = et;
      is_tail = subst (λ (l : List State). IsTail (nodes_of l) tail) es is_tail;
      complete = λ chosen s h.
          let agree = bare-agrees (nodes_of states) number s in (
            with_bare (nodes_of states) number s,
            agree,
            record {
              solves = solves-after (nodes_of states) (doubled (length states)) number s sound h.solves;
              meets = agree-meets (length (nodes_of states)) s (with_bare (nodes_of states) number s) chosen (notes_of states) agree below h.meets;
              sorted = agree-sorted (nodes_of states) s (with_bare (nodes_of states) number s) chosen proper agree types h.sorted;
            },
          );
    })
  where
    append_nothing : (l : List ℕ) → l ++ [] ≡ l
    append_nothing [] = refl
    append_nothing (x ∷ xs) = ap (λ (t : List ℕ). x ∷ t) (append_nothing xs)
