use Rattle.std.proofs.Common.{◌∙◌, ap, ◌++◌, ◌∷◌, [], Some}
use Rattle.type_terms.specs.declared.node.Node.TheVariants.{End}
use Rattle.type_terms.specs.declared.shape.Shape.TheVariants as shape
use Rattle.type_terms.specs.Terms.{nodes_of}
use Rattle.type_unify.proofs.Adding.{leaf_apart}
use Rattle.type_unify.proofs.Building.{plain_bare, plain_may, leaf_keeps}
use Rattle.type_unify.proofs.Narrowing.{each_more, grown_none, grown_more}
use Rattle.type_unify.proofs.types.Types.make_leaf.Goals as goal

pub invariant_of-self-in-Ok : goal.invariant_of-self-in-Ok
invariant_of-self-in-Ok c =
    let s = c.self.inside.store in
    let one = c.make.new.self in
    let bare = plain_bare c.args.leaf c.requires.bare in
    let first = ap nodes_of c.in_ok-at.ensures.state in
    let second = ap nodes_of c.in-Ok.ensures.state ∙ ap (λ fs. nodes_of one ++ End (shape.Row fs (Some c.in_ok-at.at)) ∷ []) c.new.ensures in
    let keeps = leaf_keeps (nodes_of s) (nodes_of one) (nodes_of c.make-2.new.self) _ _ c.in_ok-at.at c.args.leaf bare (plain_may c.args.leaf c.requires.bare) c.stays_sound.ensures c.stays_sound-2.ensures (c.self.invariant 0) first c.in_ok-at.ensures.place second in
    let apart = leaf_apart (nodes_of s) (nodes_of one) _ c.args.leaf c.stays_sound.ensures bare (c.self.invariant 0) first in
    each_more _ _ one c.in-Ok.ensures.state keeps.apart (each_more one _ s c.in_ok-at.ensures.state apart c.self.invariant)

pub returns-in-Ok-clause-keeps : goal.returns-in-Ok-clause-keeps
returns-in-Ok-clause-keeps c =
    let s = c.self.inside.store in
    let one = c.make.new.self in
    let bare = plain_bare c.args.leaf c.requires.bare in
    let first = ap nodes_of c.in_ok-at.ensures.state in
    let second = ap nodes_of c.in-Ok.ensures.state ∙ ap (λ fs. nodes_of one ++ End (shape.Row fs (Some c.in_ok-at.at)) ∷ []) c.new.ensures in
    let keeps = leaf_keeps (nodes_of s) (nodes_of one) (nodes_of c.make-2.new.self) _ _ c.in_ok-at.at c.args.leaf bare (plain_may c.args.leaf c.requires.bare) c.stays_sound.ensures c.stays_sound-2.ensures (c.self.invariant 0) first c.in_ok-at.ensures.place second in
    let apart = leaf_apart (nodes_of s) (nodes_of one) _ c.args.leaf c.stays_sound.ensures bare (c.self.invariant 0) first in
    rw (← c.self.view_is) keeps

pub returns-in-Ok-clause-grown : goal.returns-in-Ok-clause-grown
returns-in-Ok-clause-grown c =
    let s = c.self.inside.store in
    let one = c.make.new.self in
    let bare = plain_bare c.args.leaf c.requires.bare in
    let first = ap nodes_of c.in_ok-at.ensures.state in
    let second = ap nodes_of c.in-Ok.ensures.state ∙ ap (λ fs. nodes_of one ++ End (shape.Row fs (Some c.in_ok-at.at)) ∷ []) c.new.ensures in
    let keeps = leaf_keeps (nodes_of s) (nodes_of one) (nodes_of c.make-2.new.self) _ _ c.in_ok-at.at c.args.leaf bare (plain_may c.args.leaf c.requires.bare) c.stays_sound.ensures c.stays_sound-2.ensures (c.self.invariant 0) first c.in_ok-at.ensures.place second in
    let apart = leaf_apart (nodes_of s) (nodes_of one) _ c.args.leaf c.stays_sound.ensures bare (c.self.invariant 0) first in
    rw (← c.self.view_is) (grown_more _ _ _ _ (grown_more _ _ _ _ (grown_none s) c.in_ok-at.ensures.state (λ each. apart)) c.in-Ok.ensures.state (λ each. keeps.apart))
