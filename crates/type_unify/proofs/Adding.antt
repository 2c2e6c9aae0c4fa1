-- What a new term leaves.
use Rattle.std.proofs.Common.{◌≡◌, ◌⊎◌, ℕ, ◌+◌, ◌<◌, ◌≤◌, List, [], ◌∷◌, ◌++◌, length, Option, Some, None, refl, sym, ◌∙◌, ap, subst, arith, inl, inr, length-append}
use native.Mathlib.Decide.{dec_lt}
use Rattle.elm_typing.specs.declared.flag.Flag.{Flag}
use Rattle.elm_typing.specs.declared.flag.Flag.TheVariants.{Plain}
use Rattle.type_terms.specs.declared.node.Node.{Node}
use Rattle.type_terms.specs.declared.node.Node.TheVariants.{End, Link}
use Rattle.type_terms.specs.declared.shape.Shape.{Shape}
use Rattle.type_terms.specs.declared.shape.Shape.TheVariants as shape
use Rattle.type_terms.specs.Depth.{IsBelow, IsSound}
use Rattle.type_terms.specs.Solutions.{MayBeRest}
use Rattle.type_terms.specs.Terms.{node_at, below, terms_of, Each, Among, LinksTo, IsLink, IsRest, unlinked}
use Rattle.type_terms.proofs.Pushed.{links-pushed, pushed-kept, rest-kept, links-inside}
use Rattle.type_terms.proofs.Sound.{node_at-old, node_at-new, node_at-past, by_place}
use Rattle.type_unify.specs.declared.rows.Tail.{Tail}
use Rattle.type_unify.specs.declared.rows.Tail.TheVariants.{Closed, Rigid, Open}
use Rattle.type_unify.specs.Taken.{rest_term}
use Rattle.type_unify.specs.Matching.{Fields}
use Rattle.type_unify.specs.Rests.{IsBare, IsNoRest, type_parts, RestsApart, IsType}
use Rattle.type_unify.specs.Steps.{IsTail}
use Rattle.type_unify.proofs.Reading.{no_links, each_at}

-- a new term of this shape does no harm to rests: all type parts are below n, and what its rest leads to is the rest
-- of a row already, or no term below n leads there
pub record DoesNoHarm (nodes : List Node) (n : ℕ) (form : Shape) : Type 0 where
  pub small : (i : ℕ) → Each (IsBelow n) (type_parts (node_at nodes i))
  pub types : Each (λ k. (k < n) × IsNoRest nodes k) (type_parts (End form))
  pub rest : (fields : Fields) (y : ℕ) → form ≡ shape.Row fields (Some y) → (IsLink (node_at nodes y) → ⊥) × MayBeRest (node_at nodes y) × (y < length nodes)
      × (IsRest nodes y ⊎ ((i : ℕ) → i < n → LinksTo nodes y i → ⊥))

rest_pushed : (nodes : List Node) (form : Shape) (e : ℕ) → IsRest (nodes ++ End form ∷ []) e → IsRest nodes e ⊎ ((fields : Fields) × (y : ℕ) × (form ≡ shape.Row fields (Some y)) × LinksTo nodes e y)
rest_pushed nodes form e h =
    elim (pushed-kept nodes (End form) (End (shape.Row h.fields (Some h.rest))) h.row (λ v. v) h.stands) as (λ _. IsRest nodes e ⊎ ((fields : Fields) × (y : ℕ) × (form ≡ shape.Row fields (Some y)) × LinksTo nodes e y)) [
      | inl x ↦ inl (record { row = h.row; fields = h.fields; rest = h.rest; stands = x; leads = links-pushed nodes form e h.rest h.leads })
      | inr g ↦ inr (h.fields, h.rest, form_is g.1, links-pushed nodes form e h.rest h.leads)
    ]
  where
    form_is : End form ≡ End (shape.Row h.fields (Some h.rest)) → form ≡ shape.Row h.fields (Some h.rest)
    form_is e = cc e

-- what is bare with the new term was bare, unless it is the new term
bare_before : (nodes : List Node) (node : Node) (e : ℕ) → IsBare (node_at (nodes ++ node ∷ []) e) → IsBare (node_at nodes e)
bare_before nodes node e bare =
    elim (dec_lt e (length nodes)) as (λ _. IsBare (node_at nodes e)) [
      | yes lt ↦ subst IsBare (node_at-old nodes node e lt) bare
      | no ge ↦ subst IsBare (sym (node_at-past nodes e (omega arith))) tt
    ]

pub no_rest_pushed : (nodes : List Node) (n : ℕ) (form : Shape) (i : ℕ) → DoesNoHarm nodes n form → i < n → IsNoRest nodes i → IsNoRest (nodes ++ End form ∷ []) i
no_rest_pushed nodes n form i d lt none end leads rest bare =
    let l = links-pushed nodes form end i leads in
    let b = bare_before nodes (End form) end bare in
    elim (rest_pushed nodes form end rest) as (λ _. ⊥) [
      | inl r ↦ none end l r b
      | inr g ↦ (let p = d.rest g.0 g.1 g.2 in
          let e : end ≡ g.1 = no_links nodes end g.1 p.0 g.3 in
          elim p.3 as (λ _. ⊥) [
            | inl r ↦ none end l (subst (IsRest nodes) (sym e) r) b
            | inr away ↦ away i lt (subst (λ (j : ℕ). LinksTo nodes j i) e l)
          ])
    ]

each_map_below : (P Q : ℕ → Type 0) (n : ℕ) → ((k : ℕ) → k < n → P k → Q k) → (ks : List ℕ) → Each (IsBelow n) ks → Each P ks → Each Q ks
each_map_below P Q n f [] b h = tt
each_map_below P Q n f (k ∷ ks) b h = (f k b.0 h.0, each_map_below P Q n f ks b.1 h.1)

each_map : (P Q : ℕ → Type 0) → ((k : ℕ) → P k → Q k) → (ks : List ℕ) → Each P ks → Each Q ks
each_map P Q f [] h = tt
each_map P Q f (k ∷ ks) h = (f k h.0, each_map P Q f ks h.1)

-- rests stand in the store
pub rest_inside : (nodes : List Node) (bound i : ℕ) → IsSound nodes bound → IsRest nodes i → i < length nodes
rest_inside nodes bound i sound h =
    links-inside nodes bound i h.rest sound h.leads ((subst (λ (n : Node). Each (IsBelow (length nodes)) (below n)) h.stands (sound.inside h.row)).0)

pub apart_pushed : (nodes : List Node) (bound n : ℕ) (form : Shape) → IsSound nodes bound → DoesNoHarm nodes n form → RestsApart nodes → RestsApart (nodes ++ End form ∷ [])
apart_pushed nodes bound n form sound d apart = record {
  rests = λ i rest.
      elim (rest_pushed nodes form i rest) as (λ _. MayBeRest (node_at (nodes ++ End form ∷ []) i)) [
        | inl r ↦ subst MayBeRest (sym (node_at-old nodes (End form) i (rest_inside nodes bound i sound r))) (apart.rests i r)
        | inr g ↦ (let p = d.rest g.0 g.1 g.2 in
            let e : i ≡ g.1 = no_links nodes i g.1 p.0 g.3 in
            subst (λ (j : ℕ). MayBeRest (node_at (nodes ++ End form ∷ []) j)) (sym e) (subst MayBeRest (sym (node_at-old nodes (End form) g.1 p.2)) p.1))
      ];
  types = by_place (λ i node. Each (IsNoRest (nodes ++ End form ∷ [])) (type_parts node)) nodes (End form)
      (λ i lt. each_map_below (IsNoRest nodes) (IsNoRest (nodes ++ End form ∷ [])) n (λ k lt. no_rest_pushed nodes n form k d lt) (type_parts (node_at nodes i)) (d.small i) (apart.types i))
      (each_map (λ k. (k < n) × IsNoRest nodes k) (IsNoRest (nodes ++ End form ∷ [])) (λ k p. no_rest_pushed nodes n form k d p.0 p.1) (type_parts (End form)) d.types)
      (λ i. tt);
}

each_below : (xs ys : List ℕ) (n : ℕ) → ((k : ℕ) → Among k xs → Among k ys) → Each (IsBelow n) ys → Each (IsBelow n) xs
each_below [] ys n f h = tt
each_below (x ∷ xs) ys n f h = (each_at (IsBelow n) ys x h (f x (inl refl)), each_below xs ys n (λ k m. f k (inr m)) h)

type_part : (node : Node) (k : ℕ) → Among k (type_parts node) → Among k (below node)
type_part (Link to) k m = absurd m
type_part (End (shape.Variable flag)) k m = absurd m
type_part (End (shape.Opaque number flag)) k m = absurd m
type_part (End (shape.Named name ks)) k m = m
type_part (End (shape.Arrow from to)) k m = m
type_part (End (shape.Tuple ks)) k m = m
type_part (End (shape.Row fields None)) k m = m
type_part (End (shape.Row fields (Some rest))) k m = inr m

pub parts_small : (nodes : List Node) (bound i : ℕ) → IsSound nodes bound → Each (IsBelow (length nodes)) (type_parts (node_at nodes i))
parts_small nodes bound i sound = each_below (type_parts (node_at nodes i)) (below (node_at nodes i)) (length nodes) (type_part (node_at nodes i)) (sound.inside i)

-- a new variable
pub variable_harmless : (nodes : List Node) (bound : ℕ) (flag : Flag) → IsSound nodes bound → DoesNoHarm nodes (length nodes) (shape.Variable flag)
variable_harmless nodes bound flag sound = record {
  small = λ i. parts_small nodes bound i sound;
  types = tt;
  rest = λ fields y e. cc e;
}

-- a new row over a tail that is there
pub row_harmless : (nodes : List Node) (bound : ℕ) (fields : Fields) (tail : Tail) → IsSound nodes bound → Each (IsType nodes) (terms_of fields) → IsTail nodes tail →
    DoesNoHarm nodes (length nodes) (shape.Row fields (rest_term tail))
row_harmless nodes bound fields Closed sound types t = record {
  small = λ i. parts_small nodes bound i sound;
  types = types;
  rest = λ fs y e. (let x : None ≡ Some y = cc e in cc x);
}
row_harmless nodes bound fields (Rigid at number) sound types t = record {
  small = λ i. parts_small nodes bound i sound;
  types = types;
  rest = λ fs y e. (let x : at ≡ y = cc e in
      subst (λ (j : ℕ). (IsLink (node_at nodes j) → ⊥) × MayBeRest (node_at nodes j) × (j < length nodes) × (IsRest nodes j ⊎ ((i : ℕ) → i < length nodes → LinksTo nodes j i → ⊥))) x
      ((λ l. subst IsLink t.2 l), subst MayBeRest (sym t.2) tt, t.0, inl t.1));
}
row_harmless nodes bound fields (Open at) sound types t = record {
  small = λ i. parts_small nodes bound i sound;
  types = types;
  rest = λ fs y e. (let x : at ≡ y = cc e in
      subst (λ (j : ℕ). (IsLink (node_at nodes j) → ⊥) × MayBeRest (node_at nodes j) × (j < length nodes) × (IsRest nodes j ⊎ ((i : ℕ) → i < length nodes → LinksTo nodes j i → ⊥))) x
      ((λ l. subst IsLink t.2 l), subst MayBeRest (sym t.2) tt, t.0, inl t.1));
}

-- a new variable or opaque type
pub leaf_harmless : (nodes : List Node) (bound : ℕ) (form : Shape) → IsSound nodes bound → IsBare (End form) → DoesNoHarm nodes (length nodes) form
leaf_harmless nodes bound (shape.Variable flag) sound b = variable_harmless nodes bound flag sound
leaf_harmless nodes bound (shape.Opaque number flag) sound b = record {
  small = λ i. parts_small nodes bound i sound;
  types = tt;
  rest = λ fields y e. cc e;
}
leaf_harmless nodes bound (shape.Named name ks) sound b = absurd b
leaf_harmless nodes bound (shape.Arrow from to) sound b = absurd b
leaf_harmless nodes bound (shape.Tuple ks) sound b = absurd b
leaf_harmless nodes bound (shape.Row fields rest) sound b = absurd b

-- a new variable or opaque type is no rest
pub leaf_apart : (old new : List Node) (bound : ℕ) (form : Shape) → IsSound old bound → IsBare (End form) → RestsApart old → new ≡ old ++ End form ∷ [] → RestsApart new
leaf_apart old new bound form sound bare apart e = subst RestsApart (sym e) (apart_pushed old bound (length old) form sound (leaf_harmless old bound form sound bare) apart)

bare_parts : (n : ℕ) (form : Shape) → IsBare (End form) → Each (IsBelow n) (type_parts (End form))
bare_parts n (shape.Variable flag) b = tt
bare_parts n (shape.Opaque number flag) b = tt
bare_parts n (shape.Named name ks) b = absurd b
bare_parts n (shape.Arrow from to) b = absurd b
bare_parts n (shape.Tuple ks) b = absurd b
bare_parts n (shape.Row fields rest) b = absurd b

-- a new row over a new variable or opaque type
pub leaf_row_harmless : (nodes : List Node) (bound : ℕ) (form : Shape) (fields : Fields) → IsSound nodes bound → IsBare (End form) → MayBeRest (End form) → Each (IsType nodes) (terms_of fields) →
    DoesNoHarm (nodes ++ End form ∷ []) (length nodes) (shape.Row fields (Some (length nodes)))
leaf_row_harmless nodes bound form fields sound bare may types = record {
  small = by_place (λ i node. Each (IsBelow (length nodes)) (type_parts node)) nodes (End form) (λ i lt. parts_small nodes bound i sound) (bare_parts (length nodes) form bare) (λ i. tt);
  types = each_map (IsType nodes) (λ k. (k < length nodes) × IsNoRest (nodes ++ End form ∷ []) k)
      (λ k t. (t.0, no_rest_pushed nodes (length nodes) form k (leaf_harmless nodes bound form sound bare) t.0 t.1)) (terms_of fields) types;
  rest = λ fs y e. (let x : length nodes ≡ y = cc e in
      subst (λ (j : ℕ). (IsLink (node_at (nodes ++ End form ∷ []) j) → ⊥) × MayBeRest (node_at (nodes ++ End form ∷ []) j) × (j < length (nodes ++ End form ∷ []))
      × (IsRest (nodes ++ End form ∷ []) j ⊎ ((i : ℕ) → i < length nodes → LinksTo (nodes ++ End form ∷ []) j i → ⊥))) x (
        (λ l. subst IsLink (node_at-new nodes (End form)) l),
        subst MayBeRest (sym (node_at-new nodes (End form))) may,
        (let l = length-append nodes (End form ∷ []) in omega (arith, l)),
        inr (λ i lt leads. let back = links-inside nodes bound (length nodes) i sound (links-pushed nodes form (length nodes) i leads) lt in omega (arith, back)),
      ));
}

pub fresh_row_harmless : (nodes : List Node) (bound : ℕ) (fields : Fields) → IsSound nodes bound → Each (IsType nodes) (terms_of fields) →
    DoesNoHarm (nodes ++ End (shape.Variable Plain) ∷ []) (length nodes) (shape.Row fields (Some (length nodes)))
fresh_row_harmless nodes bound fields sound types = leaf_row_harmless nodes bound (shape.Variable Plain) fields sound tt tt types

pub type_pushed : (nodes : List Node) (n : ℕ) (form : Shape) (i : ℕ) → DoesNoHarm nodes n form → i < n → n ≤ length nodes → IsNoRest nodes i → IsType (nodes ++ End form ∷ []) i
type_pushed nodes n form i d lt le none = ((let l = length-append nodes (End form ∷ []) in omega (arith, l)), no_rest_pushed nodes n form i d lt none)

-- a rest stays one
pub tail_pushed : (nodes : List Node) (form : Shape) (v : ℕ) → IsTail nodes (Open v) → IsTail (nodes ++ End form ∷ []) (Open v)
tail_pushed nodes form v t = ((let l = length-append nodes (End form ∷ []) in let lt = t.0 in omega (arith, l, lt)), rest-kept nodes (End form) v t.1, node_at-old nodes (End form) v t.0 ∙ t.2)

-- a new row is a type
pub row_type : (nodes : List Node) (fields : Fields) (rest : Option ℕ) → IsType (nodes ++ End (shape.Row fields rest) ∷ []) (length nodes)
row_type nodes fields rest = (
  (let l = length-append nodes (End (shape.Row fields rest) ∷ []) in omega (arith, l)),
  λ end leads r bare.
      let is = node_at-new nodes (End (shape.Row fields rest)) in
      let e = no_links (nodes ++ End (shape.Row fields rest) ∷ []) end (length nodes) (λ l. subst IsLink is l) leads in
      subst IsBare (ap (node_at (nodes ++ End (shape.Row fields rest) ∷ [])) e ∙ is) bare,
)

unlinked_append : (xs ys : List Node) → unlinked (xs ++ ys) ≡ unlinked xs + unlinked ys
unlinked_append [] ys = omega arith
unlinked_append (End (shape.Variable f) ∷ xs) ys = let i = unlinked_append xs ys in omega (arith, i)
unlinked_append (End (shape.Opaque n f) ∷ xs) ys = unlinked_append xs ys
unlinked_append (End (shape.Named n ks) ∷ xs) ys = unlinked_append xs ys
unlinked_append (End (shape.Arrow a b) ∷ xs) ys = unlinked_append xs ys
unlinked_append (End (shape.Tuple ks) ∷ xs) ys = unlinked_append xs ys
unlinked_append (End (shape.Row fs r) ∷ xs) ys = unlinked_append xs ys
unlinked_append (Link to ∷ xs) ys = unlinked_append xs ys

pub unlinked_row : (nodes : List Node) (fields : Fields) (rest : Option ℕ) → unlinked (nodes ++ End (shape.Row fields rest) ∷ []) ≡ unlinked nodes
unlinked_row nodes fields rest = let i = unlinked_append nodes (End (shape.Row fields rest) ∷ []) in omega (arith, i)

pub unlinked_variable : (nodes : List Node) → unlinked (nodes ++ End (shape.Variable Plain) ∷ []) ≡ unlinked nodes + 1
unlinked_variable nodes = let i = unlinked_append nodes (End (shape.Variable Plain) ∷ []) in omega (arith, i)
