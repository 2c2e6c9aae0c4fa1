use Rattle.std.proofs.Common.{◌∙◌, ap, refl, sym, ◌++◌, ◌∷◌, [], Some}
use Rattle.elm_typing.specs.declared.flag.Flag.TheVariants.{Plain}
use Rattle.type_terms.specs.declared.node.Node.TheVariants.{End}
use Rattle.type_terms.specs.declared.shape.Shape.TheVariants as shape
use Rattle.type_terms.specs.Terms.{nodes_of}
use Rattle.type_unify.proofs.Building.{leaf_rest}
use Rattle.type_unify.proofs.types.Types.make_rigid_rest.Goals as goal

pub returns-clause-tail : goal.returns-clause-tail
returns-clause-tail c = leaf_rest (nodes_of c.args.self.now) (nodes_of c.args.self.now ++ End (shape.Opaque c.args.number Plain) ∷ []) _ c.in_ok-at.at (shape.Opaque c.args.number Plain) refl c.in_ok-at.ensures.place
    (ap nodes_of c.in_ok-at.ensures.state ∙ ap (λ k. (nodes_of c.args.self.now ++ End (shape.Opaque c.args.number Plain) ∷ []) ++ End (shape.Row [] (Some k)) ∷ []) (sym c.in_ok-at.ensures.place))
