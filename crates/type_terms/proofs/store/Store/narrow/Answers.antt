use Rattle.std.proofs.Common.{◌≡◌, ◌↔◌, List, ◌∷◌, length, set, sym, subst}
use Rattle.elm_typing.specs.Flags.{HasFlag}
use Rattle.type_terms.specs.declared.node.Node.TheVariants.{End}
use Rattle.type_terms.specs.declared.shape.Shape.TheVariants as shape
use Rattle.type_terms.specs.Terms.{State, nodes_of, notes_of}
use Rattle.type_terms.specs.Solutions.{Assignment, Solves}
use Rattle.type_terms.proofs.Outcomes.{on_ok}
use Rattle.type_terms.proofs.Solved.{solves-narrowed}
use Rattle.type_terms.proofs.Sound.{sound-set}
use Rattle.type_terms.proofs.store.Store.narrow.Goals as goal

pub rewrite-requires-clause-sound : goal.rewrite-requires-clause-sound
rewrite-requires-clause-sound c =
    sound-set (nodes_of c.args.self.now) (length c.args.self.now) c.args.at (End (shape.Variable c.joined-flag.result)) c.flag-had.ensures.sound c.requires.inside tt tt

pub returns-clause-solutions : goal.returns-clause-solutions
returns-clause-solutions c =
    on_ok c.rewrite.result
    (c.rewrite.new.self ≡ record { nodes = set (nodes_of c.args.self.now) c.args.at (End (shape.Variable c.joined-flag.result)); notes = notes_of c.args.self.now } ∷ c.args.self.now)
    ((s : Assignment) → Solves (nodes_of c.rewrite.new.self) s ↔ (Solves (nodes_of c.args.self.now) s × HasFlag c.args.flag (s c.args.at)))
    (λ state s.
    subst (λ (h : List State). Solves (nodes_of h) s ↔ (Solves (nodes_of c.args.self.now) s × HasFlag c.args.flag (s c.args.at))) (sym state)
    (solves-narrowed (nodes_of c.args.self.now) c.args.at c.flag-had.result c.args.flag c.joined-flag.result s c.requires.inside c.flag-had.ensures.flag c.joined-flag.ensures.types))
    c.rewrite.ensures.state
