-- What a link leaves.
use Rattle.std.proofs.Common.{◌≡◌, ◌≢◌, ◌⊎◌, ◌↔◌, ℕ, ◌+◌, ◌<◌, List, ◌∷◌, length, set, Some, sym, ◌∙◌, ap, subst, arith, inl, inr, length-set}
use native.Mathlib.Decide.{ℕ_discrete}
use Rattle.elm_typing.specs.declared.flag.Flag.{Flag}
use Rattle.elm_typing.specs.Flags.{HasFlag}
use Rattle.type_terms.specs.declared.node.Node.{Node}
use Rattle.type_terms.specs.declared.node.Node.TheVariants.{End, Link}
use Rattle.type_terms.specs.declared.shape.Shape.TheVariants as shape
use Rattle.type_terms.specs.Solutions.{Assignment, MayBeRest, Solves, FitsNode, IsNoNewRest}
use Rattle.type_terms.specs.Terms.{State, nodes_of, notes_of, node_at, Each, LinksTo, itself, StandsIn, IsLink, IsVariable, IsRest, unlinked}
use Rattle.type_terms.proofs.Solved.{links-before, links-apart, kept-set, links-kept, rows-kept, IsRest-kept}
use Rattle.type_terms.proofs.Sound.{node_at-set_other, node_at-set_same}
use Rattle.type_unify.specs.declared.rows.Tail.TheVariants.{Open}
use Rattle.type_unify.specs.Bound.{IsBound}
use Rattle.type_unify.specs.Flagged.{Narrows}
use Rattle.type_unify.specs.Rests.{IsBare, IsNoRest, type_parts, RestsApart, IsType}
use Rattle.type_unify.specs.Steps.{IsRow, IsTail}
use Rattle.type_unify.proofs.Narrowing.{variable_bare, each_map, narrowed_apart, narrowed_no_rest, narrowed_type, narrowed_row, narrowed_end, narrowed_tail, narrowed_stands, narrowed_other}
use Rattle.type_unify.proofs.Reading.{no_links}

-- the variable at is linked to the term to
pub record Links (nodes : List Node) (at to : ℕ) : Type 0 where
  pub inside : at < length nodes
  pub variable : IsVariable (node_at nodes at)
  pub target : IsType nodes to
  pub end : IsLink (node_at nodes to) → ⊥
  pub rest : IsNoRest nodes at ⊎ IsRow (node_at nodes to)
  pub absent : StandsIn nodes at to → ⊥

row_not_bare : (n : Node) → IsRow n → IsBare n → ⊥
row_not_bare (End (shape.Row fields rest)) r b = b
row_not_bare (End (shape.Variable flag)) r b = r
row_not_bare (End (shape.Opaque number flag)) r b = r
row_not_bare (End (shape.Named name arguments)) r b = r
row_not_bare (End (shape.Arrow a b)) r x = r
row_not_bare (End (shape.Tuple ps)) r b = r
row_not_bare (Link to) r b = r

row_may_be : (n : Node) → IsRow n → MayBeRest n
row_may_be (End (shape.Row fields rest)) r = tt
row_may_be (End (shape.Variable flag)) r = absurd r
row_may_be (End (shape.Opaque number flag)) r = absurd r
row_may_be (End (shape.Named name arguments)) r = absurd r
row_may_be (End (shape.Arrow a b)) r = absurd r
row_may_be (End (shape.Tuple ps)) r = absurd r
row_may_be (Link to) r = absurd r

rest_after : (nodes : List Node) (at to e : ℕ) → Links nodes at to → IsRest (set nodes at (Link to)) e → IsRest nodes e ⊎ (IsRest nodes at × LinksTo nodes e to)
rest_after nodes at to e l h =
    let row : (h.row ≢ at) × (node_at nodes h.row ≡ End (shape.Row h.fields (Some h.rest))) =
    kept-set nodes at h.row (Link to) (End (shape.Row h.fields (Some h.rest))) l.inside (λ x. cc x) h.stands in
    elim (links-before nodes at to e h.rest l.inside h.leads) as (λ _. IsRest nodes e ⊎ (IsRest nodes at × LinksTo nodes e to)) [
      | inl leads ↦ inl (record { row = h.row; fields = h.fields; rest = h.rest; stands = row.1; leads = leads })
      | inr both ↦ inr (record { row = h.row; fields = h.fields; rest = h.rest; stands = row.1; leads = both.0 }, links-apart nodes at to e to l.absent both.1)
    ]

-- where the variable is the rest of a row, it is linked to a row
target_row : (nodes : List Node) (at to : ℕ) → Links nodes at to → IsRest nodes at → IsRow (node_at nodes to)
target_row nodes at to l rest =
    elim l.rest as (λ _. IsRow (node_at nodes to)) [ inl none ↦ absurd (none at itself rest (variable_bare (node_at nodes at) l.variable)) | inr row ↦ row ]

target_only : (nodes : List Node) (at to e : ℕ) → Links nodes at to → IsRest nodes at → LinksTo nodes e to → IsRow (node_at nodes e)
target_only nodes at to e l rest leads = subst (λ (j : ℕ). IsRow (node_at nodes j)) (sym (no_links nodes e to l.end leads)) (target_row nodes at to l rest)

no_rest_after : (nodes : List Node) (at to i : ℕ) → Links nodes at to → IsNoRest nodes i → IsNoRest (set nodes at (Link to)) i
no_rest_after nodes at to i l none end leads rest bare =
    elim (ℕ_discrete end at) as (λ _. ⊥) [
      | yes e ↦ subst IsBare (ap (node_at (set nodes at (Link to))) e ∙ node_at-set_same nodes at (Link to) l.inside) bare
      | no ne ↦ was (subst IsBare (node_at-set_other nodes at end (Link to) ne) bare)
    ]
  where
    was : IsBare (node_at nodes end) → ⊥
    was old_bare =
        elim (rest_after nodes at to end l rest) as (λ _. ⊥) [
          | inr r ↦ row_not_bare (node_at nodes end) (target_only nodes at to end l r.0 r.1) old_bare
          | inl r ↦ elim (links-before nodes at to end i l.inside leads) as (λ _. ⊥) [
            | inl m ↦ none end m r old_bare
            | inr m ↦ l.target.1 end (links-apart nodes at to end to l.absent m.1) r old_bare
          ]
        ]

apart_after : (nodes : List Node) (at to : ℕ) → Links nodes at to → RestsApart nodes → RestsApart (set nodes at (Link to))
apart_after nodes at to l apart = record {
  rests = λ i rest.
      elim (ℕ_discrete i at) as (λ _. MayBeRest (node_at (set nodes at (Link to)) i)) [
        | yes e ↦ subst MayBeRest (sym (ap (node_at (set nodes at (Link to))) e ∙ node_at-set_same nodes at (Link to) l.inside)) tt
        | no ne ↦ subst MayBeRest (sym (node_at-set_other nodes at i (Link to) ne))
            (elim (rest_after nodes at to i l rest) as (λ _. MayBeRest (node_at nodes i)) [
              | inl r ↦ apart.rests i r
              | inr r ↦ row_may_be (node_at nodes i) (target_only nodes at to i l r.0 r.1)
            ])
      ];
  types = λ i.
      elim (ℕ_discrete i at) as (λ _. Each (IsNoRest (set nodes at (Link to))) (type_parts (node_at (set nodes at (Link to)) i))) [
        | yes e ↦ subst (λ (n : Node). Each (IsNoRest (set nodes at (Link to))) (type_parts n)) (sym (ap (node_at (set nodes at (Link to))) e ∙ node_at-set_same nodes at (Link to) l.inside)) tt
        | no ne ↦ subst (λ (n : Node). Each (IsNoRest (set nodes at (Link to))) (type_parts n)) (sym (node_at-set_other nodes at i (Link to) ne))
            (each_map (IsNoRest nodes) (IsNoRest (set nodes at (Link to))) (λ j. no_rest_after nodes at to j l) (type_parts (node_at nodes i)) (apart.types i))
      ];
}

tail_after : (nodes : List Node) (at to v : ℕ) → Links nodes at to → v ≢ at → IsTail nodes (Open v) → IsTail (set nodes at (Link to)) (Open v)
tail_after nodes at to v l ne t = (
  (let long = length-set nodes at (Link to) in let lt = t.0 in omega (arith, long, lt)),
  IsRest-kept nodes (set nodes at (Link to)) v (links-kept nodes at (Link to) l.variable) (rows-kept nodes at (Link to) l.variable) t.1,
  node_at-set_other nodes at v (Link to) ne ∙ t.2,
)

-- what has to hold before the variable is bound
pub record Binding (nodes : List Node) (at to : ℕ) (flag : Flag) : Type 0 where
  pub is : node_at nodes at ≡ End (shape.Variable flag)
  pub links : Links nodes at to
  pub apart : RestsApart nodes

pub binding_of : (nodes : List Node) (at to : ℕ) (flag : Flag) → at < length nodes → node_at nodes at ≡ End (shape.Variable flag) → IsType nodes to → (IsLink (node_at nodes to) → ⊥) →
    IsNoRest nodes at ⊎ IsRow (node_at nodes to) → (StandsIn nodes at to → ⊥) → RestsApart nodes → Binding nodes at to flag
binding_of nodes at to flag lt is t end rest absent apart = record {
  is = is;
  links = record { inside = lt; variable = subst IsVariable (sym is) tt; target = t; end = end; rest = rest; absent = absent };
  apart = apart;
}

-- narrowing keeps it
pub narrowed_binding : (old new : List Node) (at to : ℕ) (flag : Flag) → Binding old at to flag → Narrows old new to flag → Binding new at to flag
narrowed_binding old new at to flag b n = record {
  is = narrowed_other old new to at n.kept b.links.absent ∙ b.is;
  links = record {
    inside = let long = n.kept.long in let lt = b.links.inside in omega (arith, long, lt);
    variable = subst IsVariable (sym (narrowed_other old new to at n.kept b.links.absent)) b.links.variable;
    target = narrowed_type old new to to n.kept b.links.target;
    end = narrowed_end old new to to n.kept b.links.end;
    rest = elim b.links.rest as (λ _. IsNoRest new at ⊎ IsRow (node_at new to)) [ inl none ↦ inl (narrowed_no_rest old new to at n.kept none) | inr row ↦ inr (narrowed_row old new to to n.kept row) ];
    absent = λ s. b.links.absent (narrowed_stands old new to at to n.kept s);
  };
  apart = narrowed_apart old new to n.kept b.apart;
}

pub flag_asked : (old new : List Node) (at to : ℕ) (flag : Flag) → Binding old at to flag → Narrows old new to flag → (s : Assignment) (had : Flag) → Solves new s → node_at new at ≡ End (shape.Variable had) → HasFlag had (s to)
flag_asked old new at to flag b n s had h e =
    subst (λ (f : Flag). HasFlag f (s to)) (same_flag flag had (sym (narrowed_binding old new at to flag b n).is ∙ e)) ((n.solutions s).0 h).1
  where
    same_flag : (f g : Flag) → End (shape.Variable f) ≡ End (shape.Variable g) → f ≡ g
    same_flag f g e = cc e

pub no_new_rest : (nodes : List Node) (at to : ℕ) (flag : Flag) → Binding nodes at to flag → IsRest nodes at → IsNoNewRest nodes to
no_new_rest nodes at to flag b rest end number f leads e =
    absurd (subst IsRow e (target_only nodes at to end b.links rest leads))

had_flag : (nodes : List Node) (at to : ℕ) (flag : Flag) (s : Assignment) → Binding nodes at to flag → Solves nodes s → s at ≡ s to → HasFlag flag (s to)
had_flag nodes at to flag s b h e = subst (HasFlag flag) e (subst (FitsNode (IsRest nodes at) s (s at)) b.is (h.fits at))

pub flag_refused : (nodes : List Node) (at to : ℕ) (flag : Flag) → Binding nodes at to flag → ((s : Assignment) → Solves nodes s → HasFlag flag (s to) → ⊥) →
    (s : Assignment) → Solves nodes s → s at ≡ s to → ⊥
flag_refused nodes at to flag b never s h e = never s h (had_flag nodes at to flag s b h e)

pub is_bound : (old mid : List Node) (now new : List State) (at to : ℕ) (flag : Flag) → mid ≡ nodes_of now → Binding old at to flag → Narrows old mid to flag →
    new ≡ record { nodes = set (nodes_of now) at (Link to); notes = notes_of now } ∷ now →
    ((s : Assignment) → Solves (nodes_of new) s ↔ (Solves (nodes_of now) s × (s at ≡ s to))) → unlinked (nodes_of new) + 1 ≡ unlinked (nodes_of now) →
    IsBound old (nodes_of new) at to
is_bound old mid now new at to flag e b n state solutions fewer =
    let n' = subst (λ (nodes : List Node). Narrows old nodes to flag) e n in
    let c = narrowed_binding old (nodes_of now) at to flag b n' in
    let is : nodes_of new ≡ set (nodes_of now) at (Link to) = ap nodes_of state in record {
      solutions = λ s. (
        (λ h. let r = (solutions s).0 h in (((n'.solutions s).0 r.0).0, r.1)),
        λ h. (solutions s).1 ((n'.solutions s).1 (h.0, had_flag old at to flag s b h.0 h.1), h.1),
      );
      apart = subst RestsApart (sym is) (apart_after (nodes_of now) at to c.links c.apart);
      types = λ i t. subst (λ (nodes : List Node). IsType nodes i) (sym is)
          (let u = narrowed_type old (nodes_of now) to i n'.kept t in
          ((let long = length-set (nodes_of now) at (Link to) in let lt = u.0 in omega (arith, long, lt)), no_rest_after (nodes_of now) at to i c.links u.1));
      rests = λ v ne t. subst (λ (nodes : List Node). IsTail nodes (Open v)) (sym is) (tail_after (nodes_of now) at to v c.links ne (narrowed_tail old (nodes_of now) to v n'.kept t));
      long = ap length is ∙ length-set (nodes_of now) at (Link to) ∙ n'.kept.long;
      fewer = let m = n'.kept.as_many in omega (arith, fewer, m);
    }

-- the same, where the link goes to the end of the links of the term, which is the term itself
pub is_bound_end : (old mid : List Node) (now new : List State) (at to end : ℕ) (flag : Flag) → end ≡ to → mid ≡ nodes_of now → Binding old at to flag → Narrows old mid to flag →
    new ≡ record { nodes = set (nodes_of now) at (Link end); notes = notes_of now } ∷ now →
    ((s : Assignment) → Solves (nodes_of new) s ↔ (Solves (nodes_of now) s × (s at ≡ s end))) → unlinked (nodes_of new) + 1 ≡ unlinked (nodes_of now) →
    IsBound old (nodes_of new) at to
is_bound_end old mid now new at to end flag same e b n state solutions fewer =
    subst (IsBound old (nodes_of new) at) same
    (is_bound old mid now new at end flag e (subst (λ (j : ℕ). Binding old at j flag) (sym same) b) (subst (λ (j : ℕ). Narrows old mid j flag) (sym same) n) state solutions fewer)

pub end_is : (old new : List Node) (at to end : ℕ) (flag : Flag) → Binding old at to flag → Narrows old new to flag → LinksTo new end to → end ≡ to
end_is old new at to end flag b n leads = no_links new end to (narrowed_end old new to to n.kept b.links.end) leads
