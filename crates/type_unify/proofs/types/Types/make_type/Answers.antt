use Rattle.std.proofs.Common.{ap}
use Rattle.type_terms.specs.Terms.{nodes_of}
use Rattle.type_unify.proofs.Building.{type_keeps, type_is_new}
use Rattle.type_unify.proofs.Narrowing.{each_more, grown_none, grown_more}
use Rattle.type_unify.proofs.types.Types.make_type.Goals as goal

pub invariant_of-self-2 : goal.invariant_of-self-2
invariant_of-self-2 c =
    let s = c.self.inside.store in
    let parts = rw (← c.self.view_is) at c.requires.parts in
    let keeps = type_keeps (nodes_of s) (nodes_of c.make.new.self) _ c.args.shape c.stays_sound.ensures (c.self.invariant 0) parts c.requires.no_rest (ap nodes_of c.in_ok-at.ensures.state) in
    each_more _ _ _ c.in_ok-at.ensures.state keeps.apart c.self.invariant

pub returns-clause-keeps : goal.returns-clause-keeps
returns-clause-keeps c =
    let s = c.self.inside.store in
    let parts = rw (← c.self.view_is) at c.requires.parts in
    let keeps = type_keeps (nodes_of s) (nodes_of c.make.new.self) _ c.args.shape c.stays_sound.ensures (c.self.invariant 0) parts c.requires.no_rest (ap nodes_of c.in_ok-at.ensures.state) in
    rw (← c.self.view_is) keeps

pub returns-clause-is_type : goal.returns-clause-is_type
returns-clause-is_type c =
    let s = c.self.inside.store in
    let parts = rw (← c.self.view_is) at c.requires.parts in
    type_is_new (nodes_of s) _ _ _ c.args.shape c.stays_sound.ensures parts (ap nodes_of c.in_ok-at.ensures.state) c.in_ok-at.ensures.place

pub returns-clause-grown : goal.returns-clause-grown
returns-clause-grown c =
    let s = c.self.inside.store in
    let parts = rw (← c.self.view_is) at c.requires.parts in
    let keeps = type_keeps (nodes_of s) (nodes_of c.make.new.self) _ c.args.shape c.stays_sound.ensures (c.self.invariant 0) parts c.requires.no_rest (ap nodes_of c.in_ok-at.ensures.state) in
    rw (← c.self.view_is) (grown_more _ _ _ _ (grown_none s) c.in_ok-at.ensures.state (λ each. keeps.apart))
