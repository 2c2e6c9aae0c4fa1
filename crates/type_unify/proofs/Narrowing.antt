-- What stays where flags of variables are narrowed.
use Rattle.std.proofs.Common.{◌≡◌, ◌⊎◌, ◌↔◌, ℕ, zero, suc, ◌<◌, List, [], ◌∷◌, ◌++◌, length, set, drop, Option, Some, refl, sym, ◌∙◌, ap, subst, arith, inl, inr, length-set, append_assoc, Result, Ok, Err, OnOk, OnErr}
use native.Mathlib.Decide.{ℕ_discrete}
use Rattle.elm_base.specs.declared.memory.NoMemory.{NoMemory}
use Rattle.elm_typing.specs.declared.flag.Flag.{Flag}
use Rattle.elm_typing.specs.Flags.{HasFlag, joined}
use Rattle.type_terms.specs.declared.node.Node.{Node}
use Rattle.type_terms.specs.declared.node.Node.TheVariants.{End, Link}
use Rattle.type_terms.specs.declared.shape.Shape.TheVariants as shape
use Rattle.type_terms.specs.Solutions.{Assignment, MayBeRest, Solves}
use Rattle.type_terms.specs.Terms.{State, nodes_of, notes_of, node_at, with_note, below, Each, Among, LinksTo, itself, StandsIn, here, within, IsLink, IsVariable, IsRest, unlinked}
use Rattle.type_terms.proofs.Solved.{LinksTo-kept, IsRest-kept}
use Rattle.type_terms.proofs.Sound.{node_at-set_other, node_at-set_same}
use Rattle.type_unify.specs.declared.flags.Demand.{Demand}
use Rattle.type_unify.specs.Flagged.{AllHave, StandWithin, Demands, OnlyNarrows, Narrows}
use Rattle.type_unify.specs.Grown.{IsGrown}
use Rattle.type_unify.specs.Rests.{IsBare, IsNoRest, type_parts, RestsApart, EachApart, IsType}
use Rattle.type_unify.specs.declared.rows.Tail.TheVariants.{Open}
use Rattle.type_unify.specs.Steps.{IsRow, IsTail}
use Rattle.type_unify.proofs.Asking.{within_front, have_front}

pub grown_none : (store : List State) → IsGrown store store
grown_none store = record { changes = []; behind = refl; notes = refl; apart = λ each. each }

-- one state more, in which rests stand apart
pub each_more : (new : List State) (state : State) (now : List State) → new ≡ state ∷ now → RestsApart (nodes_of new) → EachApart now → EachApart new
each_more new state now e apart each zero = apart
each_more new state now e apart each (suc changes) = subst (λ (l : List State). RestsApart (nodes_of (drop (suc changes) l))) (sym e) (each changes)

-- a note more, or none
pub each_noted : (r : Result (Unit {0}) NoMemory) (new now : List State) (a b : ℕ) → OnOk r (new ≡ with_note a b now) → OnErr r (new ≡ now) → EachApart now → EachApart new
each_noted (Ok done) new now a b noted same each = each_more new (record { nodes = nodes_of now; notes = notes_of now ++ (a, b) ∷ [] }) now noted (subst RestsApart (sym (ap nodes_of noted)) (each 0)) each
each_noted (Err e) new now a b noted same each = subst EachApart (sym same) each

-- a change of the terms alone
pub grown_more : (old now new : List State) (nodes : List Node) → IsGrown old now → new ≡ record { nodes = nodes; notes = notes_of now } ∷ now → (EachApart old → RestsApart (nodes_of new)) → IsGrown old new
grown_more old now new nodes g e apart =
    let state : State = record { nodes = nodes; notes = notes_of now } in record {
      changes = state ∷ g.changes;
      behind = e ∙ ap (λ l. state ∷ l) g.behind;
      notes = ap notes_of e ∙ g.notes;
      apart = λ each. each_more new state now e (apart each) (g.apart each);
    }

pub grown_same : (old now new : List State) → IsGrown old now → new ≡ now → IsGrown old new
grown_same old now new g e = subst (IsGrown old) (sym e) g

-- what follows from an answer's fact holds of the answer too
pub ok_map : {A E : Type 0} (P Q : Type 0) (r : Result A E) → OnOk r P → (P → Q) → OnOk r Q
ok_map P Q (Ok v) p f = f p
ok_map P Q (Err e) p f = p

pub grown_through : (old now new : List State) → IsGrown old now → IsGrown now new → IsGrown old new
grown_through old now new g h = record {
  changes = h.changes ++ g.changes;
  behind = h.behind ∙ ap (λ l. h.changes ++ l) g.behind ∙ sym (append_assoc h.changes g.changes old);
  notes = h.notes ∙ g.notes;
  apart = λ each. h.apart (g.apart each);
}

unlinked_set : (nodes : List Node) (v : ℕ) (f : Flag) → v < length nodes → IsVariable (node_at nodes v) → unlinked (set nodes v (End (shape.Variable f))) ≡ unlinked nodes
unlinked_set [] v f lt var = absurd (omega arith)
unlinked_set (End (shape.Variable g) ∷ nodes) zero f lt var = refl
unlinked_set (End (shape.Opaque n g) ∷ nodes) zero f lt var = absurd var
unlinked_set (End (shape.Named n xs) ∷ nodes) zero f lt var = absurd var
unlinked_set (End (shape.Arrow a b) ∷ nodes) zero f lt var = absurd var
unlinked_set (End (shape.Tuple xs) ∷ nodes) zero f lt var = absurd var
unlinked_set (End (shape.Row fs r) ∷ nodes) zero f lt var = absurd var
unlinked_set (Link to ∷ nodes) zero f lt var = absurd var
unlinked_set (End (shape.Variable g) ∷ nodes) (suc v) f lt var = ap suc (unlinked_set nodes v f (omega arith) var)
unlinked_set (End (shape.Opaque n g) ∷ nodes) (suc v) f lt var = unlinked_set nodes v f (omega arith) var
unlinked_set (End (shape.Named n xs) ∷ nodes) (suc v) f lt var = unlinked_set nodes v f (omega arith) var
unlinked_set (End (shape.Arrow a b) ∷ nodes) (suc v) f lt var = unlinked_set nodes v f (omega arith) var
unlinked_set (End (shape.Tuple xs) ∷ nodes) (suc v) f lt var = unlinked_set nodes v f (omega arith) var
unlinked_set (End (shape.Row fs r) ∷ nodes) (suc v) f lt var = unlinked_set nodes v f (omega arith) var
unlinked_set (Link to ∷ nodes) (suc v) f lt var = unlinked_set nodes v f (omega arith) var

narrows_none : (nodes : List Node) (at : ℕ) → OnlyNarrows nodes nodes at
narrows_none nodes at = record { long = refl; nodes = λ i. inl refl; as_many = refl }

variable_kept : (old now : List Node) (at v : ℕ) → OnlyNarrows old now at → IsVariable (node_at old v) → IsVariable (node_at now v)
variable_kept old now at v k var =
    elim (k.nodes v) as (λ _. IsVariable (node_at now v)) [ inl e ↦ subst IsVariable (sym e) var | inr w ↦ w.1 ]

narrows_more : (old now : List Node) (at v : ℕ) (f : Flag) → OnlyNarrows old now at → IsVariable (node_at old v) → IsType old v → StandsIn old v at → OnlyNarrows old (set now v (End (shape.Variable f))) at
narrows_more old now at v f k var type stands = record {
  long = length-set now v (End (shape.Variable f)) ∙ k.long;
  nodes = λ i.
      elim (ℕ_discrete i v) as (λ _. (node_at (set now v (End (shape.Variable f))) i ≡ node_at old i) ⊎ (IsVariable (node_at old i) × IsVariable (node_at (set now v (End (shape.Variable f))) i) × IsType old i × StandsIn old i at)) [
        | yes e ↦ inr (
          subst (λ (j : ℕ). IsVariable (node_at old j)) (sym e) var,
          subst (λ (j : ℕ). IsVariable (node_at (set now v (End (shape.Variable f))) j)) (sym e) (subst IsVariable (sym (node_at-set_same now v (End (shape.Variable f)) lt)) tt),
          subst (IsType old) (sym e) type,
          subst (λ (j : ℕ). StandsIn old j at) (sym e) stands,
        )
        | no ne ↦ subst (λ (n : Node). (n ≡ node_at old i) ⊎ (IsVariable (node_at old i) × IsVariable n × IsType old i × StandsIn old i at)) (sym (node_at-set_other now v i (End (shape.Variable f)) ne)) (k.nodes i)
      ];
  as_many = unlinked_set now v f lt (variable_kept old now at v k var) ∙ k.as_many;
}
  where
    lt : v < length now
    lt = let l = k.long in let t = type.0 in omega (arith, l, t)

pub variable_flag : (n : Node) → IsVariable n → (had : Flag) × (n ≡ End (shape.Variable had))
variable_flag (End (shape.Variable f)) v = (f, refl)
variable_flag (End (shape.Opaque n g)) v = absurd v
variable_flag (End (shape.Named n xs)) v = absurd v
variable_flag (End (shape.Arrow a b)) v = absurd v
variable_flag (End (shape.Tuple xs)) v = absurd v
variable_flag (End (shape.Row fs r)) v = absurd v
variable_flag (Link to) v = absurd v

-- what stays --

no_link_variable : (n : Node) (next : ℕ) → IsVariable n → n ≡ Link next → ⊥
no_link_variable n next v e = subst IsVariable e v

no_row_variable : (n : Node) (fields : List (List ℕ × ℕ)) (rest : Option ℕ) → IsVariable n → n ≡ End (shape.Row fields rest) → ⊥
no_row_variable n fields rest v e = subst IsVariable e v

narrowed_links : (old new : List Node) (at end i : ℕ) → OnlyNarrows old new at → LinksTo new end i → LinksTo old end i
narrowed_links old new at end i k l = LinksTo-kept new old end i
    (λ j next e. elim (k.nodes j) as (λ _. node_at old j ≡ Link next) [ inl same ↦ sym same ∙ e | inr w ↦ absurd (no_link_variable (node_at new j) next w.1 e) ]) l

pub links_narrowed : (old new : List Node) (at end i : ℕ) → OnlyNarrows old new at → LinksTo old end i → LinksTo new end i
links_narrowed old new at end i k l = LinksTo-kept old new end i
    (λ j next e. elim (k.nodes j) as (λ _. node_at new j ≡ Link next) [ inl same ↦ same ∙ e | inr w ↦ absurd (no_link_variable (node_at old j) next w.0 e) ]) l

narrowed_rest : (old new : List Node) (at i : ℕ) → OnlyNarrows old new at → IsRest new i → IsRest old i
narrowed_rest old new at i k r = IsRest-kept new old i
    (λ j next e. elim (k.nodes j) as (λ _. node_at old j ≡ Link next) [ inl same ↦ sym same ∙ e | inr w ↦ absurd (no_link_variable (node_at new j) next w.1 e) ])
    (λ j fields rest e. elim (k.nodes j) as (λ _. node_at old j ≡ End (shape.Row fields (Some rest))) [
      | inl same ↦ sym same ∙ e
      | inr w ↦ absurd (no_row_variable (node_at new j) fields (Some rest) w.1 e)
    ]) r

pub variable_bare : (n : Node) → IsVariable n → IsBare n
variable_bare n v = let f = variable_flag n v in subst IsBare (sym f.1) tt

pub narrowed_no_rest : (old new : List Node) (at i : ℕ) → OnlyNarrows old new at → IsNoRest old i → IsNoRest new i
narrowed_no_rest old new at i k no_rest end l r bare =
    no_rest end (narrowed_links old new at end i k l) (narrowed_rest old new at end k r)
    (elim (k.nodes end) as (λ _. IsBare (node_at old end)) [ inl same ↦ subst IsBare same bare | inr w ↦ variable_bare (node_at old end) w.0 ])

pub narrowed_type : (old new : List Node) (at i : ℕ) → OnlyNarrows old new at → IsType old i → IsType new i
narrowed_type old new at i k t = (let long = k.long in let lt = t.0 in omega (arith, long, lt), narrowed_no_rest old new at i k t.1)

pub each_map : (P Q : ℕ → Type 0) → ((k : ℕ) → P k → Q k) → (ks : List ℕ) → Each P ks → Each Q ks
each_map P Q f [] h = tt
each_map P Q f (k ∷ ks) h = (f k h.0, each_map P Q f ks h.1)

pub narrowed_apart : (old new : List Node) (at : ℕ) → OnlyNarrows old new at → RestsApart old → RestsApart new
narrowed_apart old new at k apart = record {
  rests = λ i r.
      let was = narrowed_rest old new at i k r in
      elim (k.nodes i) as (λ _. MayBeRest (node_at new i)) [
        | inl same ↦ subst MayBeRest (sym same) (apart.rests i was)
        | inr w ↦ absurd (w.2.1 i itself was (variable_bare (node_at old i) w.0))
      ];
  types = λ i.
      elim (k.nodes i) as (λ _. Each (IsNoRest new) (type_parts (node_at new i))) [
        | inl same ↦ subst (λ (n : Node). Each (IsNoRest new) (type_parts n)) (sym same)
            (each_map (IsNoRest old) (IsNoRest new) (λ j. narrowed_no_rest old new at j k) (type_parts (node_at old i)) (apart.types i))
        | inr w ↦ (let f = variable_flag (node_at new i) w.1 in subst (λ (n : Node). Each (IsNoRest new) (type_parts n)) (sym f.1) tt)
      ];
}

-- flags are narrowed one by one
pub record Narrowing (old now : List State) (at : ℕ) (flag : Flag) (left : List Demand) : Type 0 where
  pub grown : IsGrown old now
  pub to : (s : Assignment) → Solves (nodes_of now) s → AllHave s left → Solves (nodes_of old) s × HasFlag flag (s at)
  pub back : (s : Assignment) → Solves (nodes_of old) s → HasFlag flag (s at) → Solves (nodes_of now) s × AllHave s left
  pub kept : OnlyNarrows (nodes_of old) (nodes_of now) at
  pub inside : StandWithin (nodes_of old) at left

pub narrowing_first : (old : List State) (at : ℕ) (flag : Flag) (found : List Demand) → Demands (nodes_of old) at flag found → Narrowing old old at flag found
narrowing_first old at flag found d = record {
  grown = grown_none old;
  to = λ s h a. (h, d.back s h a);
  back = λ s h f. (h, d.to s h f);
  kept = narrows_none (nodes_of old) at;
  inside = d.variables;
}

pub narrowing_variable : (old now : List State) (at : ℕ) (flag : Flag) (left rest : List Demand) (d : Demand) → Narrowing old now at flag left → left ≡ rest ++ d ∷ [] →
    (d.at < length (nodes_of now)) × IsVariable (node_at (nodes_of now) d.at)
narrowing_variable old now at flag left rest d n e =
    let w = (within_front (nodes_of old) at rest d (subst (StandWithin (nodes_of old) at) e n.inside)).1 in
    let long = n.kept.long in let t = w.1.0 in
    (omega (arith, long, t), variable_kept (nodes_of old) (nodes_of now) at d.at n.kept w.0)

pub narrowing_more : (old now new : List State) (at : ℕ) (flag : Flag) (left rest : List Demand) (d : Demand) → Narrowing old now at flag left → left ≡ rest ++ d ∷ [] →
    ((had : Flag) → node_at (nodes_of now) d.at ≡ End (shape.Variable had) → new ≡ record { nodes = set (nodes_of now) d.at (End (shape.Variable (joined had d.flag))); notes = notes_of now } ∷ now) →
    ((s : Assignment) → Solves (nodes_of new) s ↔ (Solves (nodes_of now) s × HasFlag d.flag (s d.at))) → Narrowing old new at flag rest
narrowing_more old now new at flag left rest d n e state solutions =
    let had = variable_flag (node_at (nodes_of now) d.at) (narrowing_variable old now at flag left rest d n e).1 in
    let is = state had.0 had.1 in
    let w = within_front (nodes_of old) at rest d (subst (StandWithin (nodes_of old) at) e n.inside) in
    let kept = subst (λ (nodes : List Node). OnlyNarrows (nodes_of old) nodes at) (sym (ap nodes_of is))
    (narrows_more (nodes_of old) (nodes_of now) at d.at (joined had.0 d.flag) n.kept w.1.0 w.1.1 w.1.2) in record {
      grown = grown_more old now new (set (nodes_of now) d.at (End (shape.Variable (joined had.0 d.flag)))) n.grown is (λ each. narrowed_apart (nodes_of old) (nodes_of new) at kept (each 0));
      to = λ s h a. let r = (solutions s).0 h in n.to s r.0 (subst (AllHave s) (sym e) ((have_front s rest d).1 (a, r.1)));
      back = λ s h f. let r = n.back s h f in let p = (have_front s rest d).0 (subst (AllHave s) e r.1) in ((solutions s).1 (r.0, p.1), p.0);
      kept = kept;
      inside = w.0;
    }

pub narrowing_done : (old now : List State) (at : ℕ) (flag : Flag) (left : List Demand) → Narrowing old now at flag left → left ≡ [] → Narrows (nodes_of old) (nodes_of now) at flag
narrowing_done old now at flag left n e = record {
  solutions = λ s. ((λ h. n.to s h (subst (AllHave s) (sym e) tt)), λ h. (n.back s h.0 h.1).0);
  kept = n.kept;
}

pub narrowed_stands : (old new : List Node) (at v i : ℕ) → OnlyNarrows old new at → StandsIn new v i → StandsIn old v i
narrowed_stands old new at v _ k (here) = here
narrowed_stands old new at v _ k (within i j m s) =
    elim (k.nodes i) as (λ _. StandsIn old v i) [
      | inl same ↦ within i j (subst (λ (n : Node). Among j (below n)) same m) (narrowed_stands old new at v j k s)
      | inr w ↦ (let f = variable_flag (node_at new i) w.1 in absurd (subst (λ (n : Node). Among j (below n)) f.1 m))
    ]

-- what doesn't stand in the term is as it was
pub narrowed_other : (old new : List Node) (at v : ℕ) → OnlyNarrows old new at → (StandsIn old v at → ⊥) → node_at new v ≡ node_at old v
narrowed_other old new at v k other = elim (k.nodes v) as (λ _. node_at new v ≡ node_at old v) [ inl same ↦ same | inr w ↦ absurd (other w.3) ]

pub rest_narrowed : (old new : List Node) (at i : ℕ) → OnlyNarrows old new at → IsRest old i → IsRest new i
rest_narrowed old new at i k r = IsRest-kept old new i
    (λ j next e. elim (k.nodes j) as (λ _. node_at new j ≡ Link next) [ inl same ↦ same ∙ e | inr w ↦ absurd (no_link_variable (node_at old j) next w.0 e) ])
    (λ j fields rest e. elim (k.nodes j) as (λ _. node_at new j ≡ End (shape.Row fields (Some rest))) [
      | inl same ↦ same ∙ e
      | inr w ↦ absurd (no_row_variable (node_at old j) fields (Some rest) w.0 e)
    ]) r

pub narrowed_tail : (old new : List Node) (at v : ℕ) → OnlyNarrows old new at → IsTail old (Open v) → IsTail new (Open v)
narrowed_tail old new at v k t =
    elim (k.nodes v) as (λ _. IsTail new (Open v)) [
      | inl same ↦ (let long = k.long in let lt = t.0 in omega (arith, long, lt), rest_narrowed old new at v k t.1, same ∙ t.2)
      | inr w ↦ absurd (w.2.1 v itself t.1 (variable_bare (node_at old v) w.0))
    ]

pub narrowed_row : (old new : List Node) (at i : ℕ) → OnlyNarrows old new at → IsRow (node_at old i) → IsRow (node_at new i)
narrowed_row old new at i k r =
    elim (k.nodes i) as (λ _. IsRow (node_at new i)) [
      | inl same ↦ subst IsRow (sym same) r
      | inr w ↦ (let f = variable_flag (node_at old i) w.0 in absurd (subst IsRow f.1 r))
    ]

pub narrowed_end : (old new : List Node) (at i : ℕ) → OnlyNarrows old new at → (IsLink (node_at old i) → ⊥) → IsLink (node_at new i) → ⊥
narrowed_end old new at i k end l =
    elim (k.nodes i) as (λ _. ⊥) [
      | inl same ↦ end (subst IsLink same l)
      | inr w ↦ (let f = variable_flag (node_at new i) w.1 in subst IsLink f.1 l)
    ]
