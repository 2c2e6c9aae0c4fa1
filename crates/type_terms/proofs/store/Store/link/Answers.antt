use Rattle.std.proofs.Common.{◌≡◌, ◌↔◌, ◌+◌, List, ◌∷◌, length, set, sym, subst}
use Rattle.type_terms.specs.declared.node.Node.TheVariants.{Link}
use Rattle.type_terms.specs.Terms.{State, nodes_of, notes_of, unlinked}
use Rattle.type_terms.specs.Solutions.{Assignment, Solves}
use Rattle.type_terms.proofs.Linked.{solves-linked, unlinked-linked}
use Rattle.type_terms.proofs.Outcomes.{on_ok}
use Rattle.type_terms.proofs.Sound.{sound-set}
use Rattle.type_terms.proofs.store.Store.link.Goals as goal

pub rewrite-requires-clause-sound : goal.rewrite-requires-clause-sound
rewrite-requires-clause-sound c =
    sound-set (nodes_of c.args.self.now) (length c.args.self.now) c.args.at (Link c.args.to) c.flag-flag.ensures.sound c.requires.inside (c.requires.target, tt) (c.requires.apart, tt)

pub returns-clause-solutions : goal.returns-clause-solutions
returns-clause-solutions c =
    on_ok c.rewrite.result
    (c.rewrite.new.self ≡ record { nodes = set (nodes_of c.args.self.now) c.args.at (Link c.args.to); notes = notes_of c.args.self.now } ∷ c.args.self.now)
    ((s : Assignment) → Solves (nodes_of c.rewrite.new.self) s ↔ (Solves (nodes_of c.args.self.now) s × (s c.args.at ≡ s c.args.to)))
    (λ state s.
    subst (λ (h : List State). Solves (nodes_of h) s ↔ (Solves (nodes_of c.args.self.now) s × (s c.args.at ≡ s c.args.to))) (sym state)
    (solves-linked (nodes_of c.args.self.now) _ c.args.at c.args.to c.flag-flag.result s c.flag-flag.ensures.sound.deep c.requires.inside c.flag-flag.ensures.flag c.requires.apart c.requires.rest
    (λ r h. c.requires.flags r c.flag-flag.result h c.flag-flag.ensures.flag) c.requires.solvable))
    c.rewrite.ensures.state

pub returns-clause-fewer : goal.returns-clause-fewer
returns-clause-fewer c =
    on_ok c.rewrite.result
    (c.rewrite.new.self ≡ record { nodes = set (nodes_of c.args.self.now) c.args.at (Link c.args.to); notes = notes_of c.args.self.now } ∷ c.args.self.now)
    (unlinked (nodes_of c.rewrite.new.self) + 1 ≡ unlinked (nodes_of c.args.self.now))
    (λ state.
    subst (λ (h : List State). unlinked (nodes_of h) + 1 ≡ unlinked (nodes_of c.args.self.now)) (sym state)
    (sym (unlinked-linked (nodes_of c.args.self.now) c.args.at c.args.to c.requires.inside c.requires.variable)))
    c.rewrite.ensures.state
