-- A link leaves the solutions in which both terms are equal.
use Rattle.std.proofs.Common.{◌≡◌, ◌↔◌, ℕ, zero, suc, ◌+◌, ◌<◌, List, [], ◌∷◌, length, sym, subst, arith, set}
use native.Mathlib.Decide.{ℕ_discrete}
use Rattle.elm_typing.specs.declared.flag.Flag.{Flag}
use Rattle.elm_typing.specs.Flags.{HasFlag}
use Rattle.type_terms.specs.declared.node.Node.{Node}
use Rattle.type_terms.specs.declared.node.Node.TheVariants.{End, Link}
use Rattle.type_terms.specs.declared.shape.Shape.TheVariants as shape
use Rattle.type_terms.specs.Terms.{node_at, IsVariable, IsRest, StandsIn, unlinked}
use Rattle.type_terms.specs.Solutions.{Assignment, Solves, FitsNode, IsNoNewRest}
use Rattle.type_terms.specs.Depth.{EndsWithin}
use Rattle.type_terms.proofs.Sound.{node_at-set_other, node_at-set_same}
use Rattle.type_terms.proofs.Solved.{FitsNode-rest, links-kept, rows-kept, IsRest-kept, rest-linked}
use Rattle.type_terms.proofs.Composed.{SolvesBut, solution-apart}

-- a solution after the link respects all nodes but the variable
linked-but : (nodes : List Node) (at to : ℕ) (s : Assignment) → at < length nodes → IsVariable (node_at nodes at) → (StandsIn nodes at to → ⊥) →
    (IsRest nodes at → IsNoNewRest nodes to) → Solves (set nodes at (Link to)) s → SolvesBut nodes at s
linked-but nodes at to s lt variable apart keeps h = record {
  in_order = h.in_order;
  fits = λ i ne. FitsNode-rest (IsRest (set nodes at (Link to)) i) (IsRest nodes i) s (s i) (node_at nodes i)
      (λ opaque r. rest-linked nodes at to i lt apart keeps opaque r)
      (λ _ r. IsRest-kept nodes (set nodes at (Link to)) i (links-kept nodes at (Link to) variable) (rows-kept nodes at (Link to) variable) r)
      (subst (FitsNode (IsRest (set nodes at (Link to)) i) s (s i)) (node_at-set_other nodes at i (Link to) ne) (h.fits i));
}

pub solves-linked : (nodes : List Node) (bound at to : ℕ) (had : Flag) (s : Assignment) → ((i : ℕ) → EndsWithin nodes bound i) → at < length nodes → node_at nodes at ≡ End (shape.Variable had) →
    (StandsIn nodes at to → ⊥) → (IsRest nodes at → IsNoNewRest nodes to) → ((r : Assignment) → Solves nodes r → HasFlag had (r to)) → ((r : Assignment) × Solves nodes r) →
    Solves (set nodes at (Link to)) s ↔ (Solves nodes s × (s at ≡ s to))
solves-linked nodes bound at to had s deep lt e apart keeps flags one = (forth, back)
  where
    variable : IsVariable (node_at nodes at)
    variable = subst IsVariable (sym e) tt

    flag : Solves (set nodes at (Link to)) s → HasFlag had (s to)
    flag h =
        let other = solution-apart nodes at bound s one.0 deep variable (linked-but nodes at to s lt variable apart keeps h) one.1 in
        subst (HasFlag had) (other.2 to apart) (flags other.0 other.1)

    same : Solves (set nodes at (Link to)) s → s at ≡ s to
    same h = subst (FitsNode (IsRest (set nodes at (Link to)) at) s (s at)) (node_at-set_same nodes at (Link to) lt) (h.fits at)

    forth : Solves (set nodes at (Link to)) s → Solves nodes s × (s at ≡ s to)
    forth h = (
      record {
        in_order = h.in_order;
        fits = λ i. elim (ℕ_discrete i at) as (λ _. FitsNode (IsRest nodes i) s (s i) (node_at nodes i)) [
          | yes is ↦ subst (λ (j : ℕ). FitsNode (IsRest nodes j) s (s j) (node_at nodes j)) (sym is)
              (subst (FitsNode (IsRest nodes at) s (s at)) (sym e) (subst (HasFlag had) (sym (same h)) (flag h)))
          | no ne ↦ (linked-but nodes at to s lt variable apart keeps h).fits i ne
        ];
      },
      same h,
    )

    back : Solves nodes s × (s at ≡ s to) → Solves (set nodes at (Link to)) s
    back h = record {
      in_order = h.0.in_order;
      fits = λ i. elim (ℕ_discrete i at) as (λ _. FitsNode (IsRest (set nodes at (Link to)) i) s (s i) (node_at (set nodes at (Link to)) i)) [
        | yes is ↦ subst (λ (j : ℕ). FitsNode (IsRest (set nodes at (Link to)) j) s (s j) (node_at (set nodes at (Link to)) j)) (sym is)
            (subst (FitsNode (IsRest (set nodes at (Link to)) at) s (s at)) (sym (node_at-set_same nodes at (Link to) lt)) h.1)
        | no ne ↦ subst (FitsNode (IsRest (set nodes at (Link to)) i) s (s i)) (sym (node_at-set_other nodes at i (Link to) ne))
            (FitsNode-rest (IsRest nodes i) (IsRest (set nodes at (Link to)) i) s (s i) (node_at nodes i)
            (λ _ r. IsRest-kept nodes (set nodes at (Link to)) i (links-kept nodes at (Link to) variable) (rows-kept nodes at (Link to) variable) r)
            (λ opaque r. rest-linked nodes at to i lt apart keeps opaque r) (h.0.fits i))
      ];
    }

-- how many variables are unlinked --

unlinked-cons : (n : Node) (ns ms : List Node) (d : ℕ) → unlinked ns ≡ unlinked ms + d → unlinked (n ∷ ns) ≡ unlinked (n ∷ ms) + d
unlinked-cons (Link j) ns ms d e = e
unlinked-cons (End (shape.Variable flag)) ns ms d e = omega (arith, e)
unlinked-cons (End (shape.Opaque number flag)) ns ms d e = e
unlinked-cons (End (shape.Named name arguments)) ns ms d e = e
unlinked-cons (End (shape.Arrow from to)) ns ms d e = e
unlinked-cons (End (shape.Tuple ps)) ns ms d e = e
unlinked-cons (End (shape.Row fields rest)) ns ms d e = e

pub unlinked-linked : (nodes : List Node) (at to : ℕ) → at < length nodes → IsVariable (node_at nodes at) → unlinked nodes ≡ unlinked (set nodes at (Link to)) + 1
unlinked-linked [] at to lt v = absurd (omega arith)
unlinked-linked (End (shape.Variable flag) ∷ nodes) zero to lt v = omega arith
unlinked-linked (Link j ∷ nodes) zero to lt v = absurd v
unlinked-linked (End (shape.Opaque number flag) ∷ nodes) zero to lt v = absurd v
unlinked-linked (End (shape.Named name arguments) ∷ nodes) zero to lt v = absurd v
unlinked-linked (End (shape.Arrow from into) ∷ nodes) zero to lt v = absurd v
unlinked-linked (End (shape.Tuple ps) ∷ nodes) zero to lt v = absurd v
unlinked-linked (End (shape.Row fields rest) ∷ nodes) zero to lt v = absurd v
unlinked-linked (n ∷ nodes) (suc at) to lt v = unlinked-cons n nodes (set nodes at (Link to)) 1 (unlinked-linked nodes at to (omega arith) v)
