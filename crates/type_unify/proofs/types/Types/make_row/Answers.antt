use Rattle.std.proofs.Common.{◌∙◌, ap, ◌++◌, ◌∷◌, []}
use Rattle.type_terms.specs.declared.node.Node.TheVariants.{End}
use Rattle.type_terms.specs.declared.shape.Shape.TheVariants as shape
use Rattle.type_terms.specs.Terms.{nodes_of}
use Rattle.type_unify.proofs.Building.{row_keeps, row_is_new}
use Rattle.type_unify.proofs.Narrowing.{each_more, grown_none, grown_more}
use Rattle.type_unify.proofs.types.Types.make_row.Goals as goal

pub invariant_of-self-2 : goal.invariant_of-self-2
invariant_of-self-2 c =
    let s = c.self.inside.store in
    let types = rw (← c.self.view_is) at c.requires.types in
    let tail = rw (← c.self.view_is) at c.requires.tail in
    let is = ap nodes_of c.in_ok-at.ensures.state ∙ ap (λ r. nodes_of s ++ End (shape.Row c.args.fields r) ∷ []) c.rest_term-rest.ensures in
    let keeps = row_keeps (nodes_of s) (nodes_of c.make.new.self) _ c.args.fields c.args.tail c.stays_sound.ensures (c.self.invariant 0) types tail is in
    each_more _ _ _ c.in_ok-at.ensures.state keeps.apart c.self.invariant

pub returns-clause-keeps : goal.returns-clause-keeps
returns-clause-keeps c =
    let s = c.self.inside.store in
    let types = rw (← c.self.view_is) at c.requires.types in
    let tail = rw (← c.self.view_is) at c.requires.tail in
    let is = ap nodes_of c.in_ok-at.ensures.state ∙ ap (λ r. nodes_of s ++ End (shape.Row c.args.fields r) ∷ []) c.rest_term-rest.ensures in
    let keeps = row_keeps (nodes_of s) (nodes_of c.make.new.self) _ c.args.fields c.args.tail c.stays_sound.ensures (c.self.invariant 0) types tail is in
    rw (← c.self.view_is) keeps

pub returns-clause-is_type : goal.returns-clause-is_type
returns-clause-is_type c =
    let s = c.self.inside.store in
    let is = ap nodes_of c.in_ok-at.ensures.state ∙ ap (λ r. nodes_of s ++ End (shape.Row c.args.fields r) ∷ []) c.rest_term-rest.ensures in
    row_is_new (nodes_of s) _ _ c.args.fields c.args.tail is c.in_ok-at.ensures.place

pub returns-clause-grown : goal.returns-clause-grown
returns-clause-grown c =
    let s = c.self.inside.store in
    let types = rw (← c.self.view_is) at c.requires.types in
    let tail = rw (← c.self.view_is) at c.requires.tail in
    let is = ap nodes_of c.in_ok-at.ensures.state ∙ ap (λ r. nodes_of s ++ End (shape.Row c.args.fields r) ∷ []) c.rest_term-rest.ensures in
    let keeps = row_keeps (nodes_of s) (nodes_of c.make.new.self) _ c.args.fields c.args.tail c.stays_sound.ensures (c.self.invariant 0) types tail is in
    rw (← c.self.view_is) (grown_more _ _ _ _ (grown_none s) c.in_ok-at.ensures.state (λ each. keeps.apart))
