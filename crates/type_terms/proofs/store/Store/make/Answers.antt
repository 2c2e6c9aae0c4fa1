use Rattle.std.proofs.Common.{◌≡◌, ◌↔◌, ℕ, List, [], ◌∷◌, ◌++◌, length, sym, subst}
use Rattle.elm_typing.specs.Ground.{Ground}
use Rattle.elm_typing.specs.Ordered.{InOrder}
use Rattle.type_terms.specs.declared.node.Node.TheVariants.{End}
use Rattle.type_terms.specs.Terms.{State, nodes_of, notes_of}
use Rattle.type_terms.specs.Solutions.{Assignment, Solves, Fits, AddsNoRest, with_type}
use Rattle.type_terms.proofs.Outcomes.{if_ok}
use Rattle.type_terms.proofs.Pushed.{solves-pushed, solves-extended}
use Rattle.type_terms.proofs.store.Store.make.Goals as goal

pub returns-clause-solutions : goal.returns-clause-solutions
returns-clause-solutions c =
    if_ok c.add.result (λ at. at ≡ length (nodes_of c.args.self.now))
    (c.add.new.self ≡ record { nodes = nodes_of c.args.self.now ++ End c.args.shape ∷ []; notes = notes_of c.args.self.now } ∷ c.args.self.now)
    (λ at. AddsNoRest (nodes_of c.args.self.now) c.args.shape → (s : Assignment) → Solves (nodes_of c.add.new.self) s ↔ (Solves (nodes_of c.args.self.now) s × Fits ⊥ s (s at) c.args.shape))
    (λ at place state adds s.
    subst (λ (h : List State). Solves (nodes_of h) s ↔ (Solves (nodes_of c.args.self.now) s × Fits ⊥ s (s at) c.args.shape)) (sym state)
    (subst (λ (n : ℕ). Solves (nodes_of c.args.self.now ++ End c.args.shape ∷ []) s ↔ (Solves (nodes_of c.args.self.now) s × Fits ⊥ s (s n) c.args.shape)) (sym place)
    (solves-pushed (nodes_of c.args.self.now) _ c.args.shape s c.add.ensures.sound c.requires adds)))
    c.add.ensures.place c.add.ensures.state

pub returns-clause-extends : goal.returns-clause-extends
returns-clause-extends c =
    if_ok c.add.result (λ at. at ≡ length (nodes_of c.args.self.now))
    (c.add.new.self ≡ record { nodes = nodes_of c.args.self.now ++ End c.args.shape ∷ []; notes = notes_of c.args.self.now } ∷ c.args.self.now)
    (λ at. AddsNoRest (nodes_of c.args.self.now) c.args.shape → (s : Assignment) (type : Ground) → Solves (nodes_of c.args.self.now) s → Fits ⊥ s type c.args.shape → InOrder type → Solves (nodes_of c.add.new.self) (with_type s at type))
    (λ at place state adds s type h fit order.
    subst (λ (l : List State). Solves (nodes_of l) (with_type s at type)) (sym state)
    (subst (λ (n : ℕ). Solves (nodes_of c.args.self.now ++ End c.args.shape ∷ []) (with_type s n type)) (sym place)
    (solves-extended (nodes_of c.args.self.now) _ c.args.shape s type c.add.ensures.sound c.requires adds h fit order)))
    c.add.ensures.place c.add.ensures.state
