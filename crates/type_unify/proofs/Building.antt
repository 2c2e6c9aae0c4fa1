-- New terms keep rests apart from other types.
use Rattle.std.proofs.Common.{◌≡◌, ℕ, zero, suc, drop, ◌<◌, List, [], ◌∷◌, ◌++◌, length, Some, None, sym, ◌∙◌, ap, subst, arith, length-append}
use Rattle.elm_typing.specs.declared.flag.Flag.TheVariants.{Plain, Comparable, Appendable, Both}
use Rattle.type_terms.specs.declared.node.Node.{Node}
use Rattle.type_terms.specs.declared.node.Node.TheVariants.{End}
use Rattle.type_terms.specs.declared.shape.Shape.{Shape}
use Rattle.type_terms.specs.declared.shape.Shape.TheVariants as shape
use Rattle.type_terms.specs.Solutions.{MayBeRest}
use Rattle.type_terms.specs.Depth.{IsSound}
use Rattle.type_terms.specs.Terms.{State, nodes_of, node_at, parts, terms_of, Each, itself, IsLink, IsRest}
use Rattle.type_terms.proofs.Pushed.{rest-kept, new-no_rest}
use Rattle.type_terms.proofs.Sound.{node_at-old, node_at-new}
use Rattle.type_unify.specs.declared.rows.Tail.{Tail}
use Rattle.type_unify.specs.declared.rows.Tail.TheVariants.{Closed, Rigid, Open}
use Rattle.type_unify.specs.Kept.{Keeps, HasNoRest, IsPlainLeaf}
use Rattle.type_unify.specs.Matching.{Fields}
use Rattle.type_unify.specs.Rests.{IsBare, IsNoRest, type_parts, RestsApart, EachApart, IsType}
use Rattle.type_unify.specs.Steps.{IsTail}
use Rattle.type_unify.specs.Taken.{rest_term}
use Rattle.type_unify.proofs.Adding.{DoesNoHarm, apart_pushed, type_pushed, no_rest_pushed, tail_pushed, row_harmless, row_type, leaf_harmless, leaf_row_harmless, parts_small}
use Rattle.type_unify.proofs.Match.{each_append as fields_append}
use Rattle.type_unify.proofs.Reading.{no_links}
use Rattle.type_unify.proofs.Standing.{each_append}
use Rattle.type_unify.proofs.Taking.{firsts}

pub any_tail_pushed : (nodes : List Node) (form : Shape) (tail : Tail) → IsTail nodes tail → IsTail (nodes ++ End form ∷ []) tail
any_tail_pushed nodes form Closed t = tt
any_tail_pushed nodes form (Rigid at number) t =
    ((let l = length-append nodes (End form ∷ []) in let lt = t.0 in omega (arith, l, lt)), rest-kept nodes (End form) at t.1, node_at-old nodes (End form) at t.0 ∙ t.2)
any_tail_pushed nodes form (Open at) t = tail_pushed nodes form at t

harmless_keeps : (nodes : List Node) (bound : ℕ) (form : Shape) → IsSound nodes bound → RestsApart nodes → DoesNoHarm nodes (length nodes) form → Keeps nodes (nodes ++ End form ∷ [])
harmless_keeps nodes bound form sound apart d = record {
  apart = apart_pushed nodes bound (length nodes) form sound d apart;
  types = λ i t. type_pushed nodes (length nodes) form i d t.0 (omega arith) t.1;
  tails = λ tail t. any_tail_pushed nodes form tail t;
}

same_parts : (nodes : List Node) (form : Shape) → HasNoRest form → Each (IsType nodes) (parts form) → Each (λ k. (k < length nodes) × IsNoRest nodes k) (type_parts (End form))
same_parts nodes (shape.Variable flag) n h = tt
same_parts nodes (shape.Opaque number flag) n h = tt
same_parts nodes (shape.Named name ks) n h = h
same_parts nodes (shape.Arrow from to) n h = h
same_parts nodes (shape.Tuple ks) n h = h
same_parts nodes (shape.Row fields None) n h = h
same_parts nodes (shape.Row fields (Some rest)) n h = absurd n

no_rest_shape : (form : Shape) (fields : Fields) (y : ℕ) → HasNoRest form → form ≡ shape.Row fields (Some y) → ⊥
no_rest_shape form fields y n e = subst HasNoRest e n

type_harmless : (nodes : List Node) (bound : ℕ) (form : Shape) → IsSound nodes bound → HasNoRest form → Each (IsType nodes) (parts form) → DoesNoHarm nodes (length nodes) form
type_harmless nodes bound form sound n h = record {
  small = λ i. parts_small nodes bound i sound;
  types = same_parts nodes form n h;
  rest = λ fields y e. absurd (no_rest_shape form fields y n e);
}

new_type : (nodes : List Node) (bound : ℕ) (form : Shape) → IsSound nodes bound → Each (IsType nodes) (parts form) → IsType (nodes ++ End form ∷ []) (length nodes)
new_type nodes bound form sound h = (
  (let l = length-append nodes (End form ∷ []) in omega (arith, l)),
  λ end leads rest bare.
      let is = node_at-new nodes (End form) in
      let e = no_links (nodes ++ End form ∷ []) end (length nodes) (λ l. subst IsLink is l) leads in
      new-no_rest nodes bound form sound (firsts nodes (parts form) h) (subst (IsRest (nodes ++ End form ∷ [])) e rest),
)

pub type_keeps : (old new : List Node) (bound : ℕ) (form : Shape) → IsSound old bound → RestsApart old → Each (IsType old) (parts form) → HasNoRest form → new ≡ old ++ End form ∷ [] → Keeps old new
type_keeps old new bound form sound apart h n e = subst (Keeps old) (sym e) (harmless_keeps old bound form sound apart (type_harmless old bound form sound n h))

pub type_is_new : (old new : List Node) (bound at : ℕ) (form : Shape) → IsSound old bound → Each (IsType old) (parts form) → new ≡ old ++ End form ∷ [] → at ≡ length old → IsType new at
type_is_new old new bound at form sound h e place =
    subst (λ (nodes : List Node). IsType nodes at) (sym e) (subst (IsType (old ++ End form ∷ [])) (sym place) (new_type old bound form sound h))

pub row_keeps : (old new : List Node) (bound : ℕ) (fields : Fields) (tail : Tail) → IsSound old bound → RestsApart old → Each (IsType old) (terms_of fields) → IsTail old tail →
    new ≡ old ++ End (shape.Row fields (rest_term tail)) ∷ [] → Keeps old new
row_keeps old new bound fields tail sound apart types t e =
    subst (Keeps old) (sym e) (harmless_keeps old bound (shape.Row fields (rest_term tail)) sound apart (row_harmless old bound fields tail sound types t))

pub row_is_new : (old new : List Node) (at : ℕ) (fields : Fields) (tail : Tail) → new ≡ old ++ End (shape.Row fields (rest_term tail)) ∷ [] → at ≡ length old → IsType new at
row_is_new old new at fields tail e place =
    subst (λ (nodes : List Node). IsType nodes at) (sym e) (subst (IsType (old ++ End (shape.Row fields (rest_term tail)) ∷ [])) (sym place) (row_type old fields (rest_term tail)))

pub keeps_both : (old now new : List Node) → Keeps old now → Keeps now new → Keeps old new
keeps_both old now new k l = record { apart = l.apart; types = λ i t. l.types i (k.types i t); tails = λ tail t. l.tails tail (k.tails tail t) }

-- a new variable or opaque type under a new row without fields
pub leaf_keeps : (old one new : List Node) (bound more at : ℕ) (form : Shape) → IsBare (End form) → MayBeRest (End form) → IsSound old bound → IsSound one more → RestsApart old →
    one ≡ old ++ End form ∷ [] → at ≡ length old → new ≡ one ++ End (shape.Row [] (Some at)) ∷ [] → Keeps old new
leaf_keeps old one new bound more at form bare may sound sound_one apart e place f =
    let harmless : DoesNoHarm one (length old) (shape.Row [] (Some at))
    = subst (λ (nodes : List Node). DoesNoHarm nodes (length old) (shape.Row [] (Some at))) (sym e)
    (subst (λ (j : ℕ). DoesNoHarm (old ++ End form ∷ []) (length old) (shape.Row [] (Some j))) (sym place) (leaf_row_harmless old bound form [] sound bare may tt)) in
    let first = leaf_harmless old bound form sound bare in
    let long : length one ≡ suc (length old) = ap length e ∙ length-append old (End form ∷ []) ∙ omega arith in
    subst (Keeps old) (sym f) (record {
      apart = apart_pushed one more (length old) (shape.Row [] (Some at)) sound_one harmless (subst RestsApart (sym e) (apart_pushed old bound (length old) form sound first apart));
      types = λ i t. type_pushed one (length old) (shape.Row [] (Some at)) i harmless t.0 (omega (arith, long))
          (subst (λ (nodes : List Node). IsNoRest nodes i) (sym e) (no_rest_pushed old (length old) form i first t.0 t.1));
      tails = λ tail t. any_tail_pushed one (shape.Row [] (Some at)) tail (subst (λ (nodes : List Node). IsTail nodes tail) (sym e) (any_tail_pushed old form tail t));
    })

pub leaf_rest : (old one new : List Node) (at : ℕ) (form : Shape) → one ≡ old ++ End form ∷ [] → at ≡ length old → new ≡ one ++ End (shape.Row [] (Some at)) ∷ [] →
    (at < length new) × IsRest new at × (node_at new at ≡ End form)
leaf_rest old one new at form e place f =
    let long : length one ≡ suc (length old) = ap length e ∙ length-append old (End form ∷ []) ∙ omega arith in
    let new_long : length new ≡ suc (length one) = ap length f ∙ length-append one (End (shape.Row [] (Some at)) ∷ []) ∙ omega arith in (
      omega (arith, long, new_long, place),
      record { row = length one; fields = []; rest = at; stands = ap (λ nodes. node_at nodes (length one)) f ∙ node_at-new one (End (shape.Row [] (Some at))); leads = itself },
      ap (λ nodes. node_at nodes at) f ∙ node_at-old one (End (shape.Row [] (Some at))) at (omega (arith, long, place)) ∙ ap (λ nodes. node_at nodes at) e
          ∙ ap (node_at (old ++ End form ∷ [])) place ∙ node_at-new old (End form),
    )

each_kept : (P Q : ℕ → Type 0) → ((k : ℕ) → P k → Q k) → (ks : List ℕ) → Each P ks → Each Q ks
each_kept P Q f [] h = tt
each_kept P Q f (k ∷ ks) h = (f k h.0, each_kept P Q f ks h.1)

pub kept_types : (old new : List Node) (ks : List ℕ) → Keeps old new → Each (IsType old) ks → Each (IsType new) ks
kept_types old new ks k h = each_kept (IsType old) (IsType new) k.types ks h

-- a new type on top of others
pub pushed_type : (old new : List Node) (stack stack' : List ℕ) (at : ℕ) → Keeps old new → Each (IsType old) stack → IsType new at → stack' ≡ stack ++ at ∷ [] → Each (IsType new) stack'
pushed_type old new stack stack' at k h t e = subst (Each (IsType new)) (sym e) (each_append (IsType new) stack (at ∷ []) (kept_types old new stack k h) (t, tt))

pub field_pushed : (nodes : List Node) (fields fields' : Fields) (name : List ℕ) (at : ℕ) → Each (IsType nodes) (terms_of fields) → IsType nodes at → fields' ≡ fields ++ (name, at) ∷ [] → Each (IsType nodes) (terms_of fields')
field_pushed nodes fields fields' name at h t e =
    subst (λ (fs : Fields). Each (IsType nodes) (terms_of fs)) (sym e) (fields_append (IsType nodes) fields ((name, at) ∷ []) h (t, tt))

nothing_apart : RestsApart []
nothing_apart = record { rests = λ i rest. tt; types = λ i. tt }

pub none_apart : (store : List State) → store ≡ record { nodes = []; notes = [] } ∷ [] → EachApart store
none_apart store e = subst EachApart (sym e) (λ changes. at changes)
  where
    at : (changes : ℕ) → RestsApart (nodes_of (drop changes (record { nodes = []; notes = [] } ∷ [])))
    at zero = nothing_apart
    at (suc zero) = nothing_apart
    at (suc (suc changes)) = nothing_apart

pub plain_bare : (leaf : Shape) → IsPlainLeaf leaf → IsBare (End leaf)
plain_bare (shape.Variable flag) p = tt
plain_bare (shape.Opaque number flag) p = tt
plain_bare (shape.Named name ks) p = absurd p
plain_bare (shape.Arrow from to) p = absurd p
plain_bare (shape.Tuple ks) p = absurd p
plain_bare (shape.Row fields rest) p = absurd p

pub plain_may : (leaf : Shape) → IsPlainLeaf leaf → MayBeRest (End leaf)
plain_may (shape.Variable Plain) p = tt
plain_may (shape.Variable Comparable) p = absurd p
plain_may (shape.Variable Appendable) p = absurd p
plain_may (shape.Variable Both) p = absurd p
plain_may (shape.Opaque number Plain) p = tt
plain_may (shape.Opaque number Comparable) p = absurd p
plain_may (shape.Opaque number Appendable) p = absurd p
plain_may (shape.Opaque number Both) p = absurd p
plain_may (shape.Named name ks) p = absurd p
plain_may (shape.Arrow from to) p = absurd p
plain_may (shape.Tuple ks) p = absurd p
plain_may (shape.Row fields rest) p = absurd p
