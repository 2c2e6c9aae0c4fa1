use Rattle.std.proofs.Common.{Ok, ap, refl, sym, subst, ℕ}
use Rattle.type_terms.specs.Solutions.{IsNoNewRest}
use Rattle.type_terms.specs.Terms.{nodes_of, StandsIn, IsRest}
use Rattle.type_terms.proofs.Existence.{solution-exists}
use Rattle.type_unify.proofs.Binding.{binding_of, narrowed_binding, is_bound_end, end_is, no_new_rest}
use Rattle.type_unify.proofs.Narrowing.{grown_more}
use Rattle.type_unify.proofs.bind.bind.Goals as goal

pub link-requires-clause-apart : goal.link-requires-clause-apart
link-requires-clause-apart c =
    let b = binding_of _ _ _ _ c.requires.inside c.flag_of-flag.ensures c.requires.target c.requires.end c.requires.rest (c.in_ok-stands_in.ensures.no (ap Ok c.if-branch.false)) c.requires.apart in
    let n = c.in_ok-narrow_all.ensures.narrowed in
    subst (λ (j : ℕ). StandsIn (nodes_of c.narrow_all.new.store) c.args.at j → ⊥) (sym (end_is _ _ _ _ _ _ b n c.find-end.ensures.leads)) (narrowed_binding _ _ _ _ _ b n).links.absent

pub link-requires-clause-rest : goal.link-requires-clause-rest
link-requires-clause-rest c =
    let b = binding_of _ _ _ _ c.requires.inside c.flag_of-flag.ensures c.requires.target c.requires.end c.requires.rest (c.in_ok-stands_in.ensures.no (ap Ok c.if-branch.false)) c.requires.apart in
    let n = c.in_ok-narrow_all.ensures.narrowed in
    subst (λ (j : ℕ). IsRest (nodes_of c.narrow_all.new.store) c.args.at → IsNoNewRest (nodes_of c.narrow_all.new.store) j) (sym (end_is _ _ _ _ _ _ b n c.find-end.ensures.leads))
    (no_new_rest _ _ _ _ (narrowed_binding _ _ _ _ _ b n))

pub link-requires-clause-solvable : goal.link-requires-clause-solvable
link-requires-clause-solvable c =
    let b = binding_of _ _ _ _ c.requires.inside c.flag_of-flag.ensures c.requires.target c.requires.end c.requires.rest (c.in_ok-stands_in.ensures.no (ap Ok c.if-branch.false)) c.requires.apart in
    solution-exists _ _ c.find-end.ensures.sound (narrowed_binding _ _ _ _ _ b c.in_ok-narrow_all.ensures.narrowed).apart.rests

pub returns-clause-grown : goal.returns-clause-grown
returns-clause-grown c =
    let b = binding_of _ _ _ _ c.requires.inside c.flag_of-flag.ensures c.requires.target c.requires.end c.requires.rest (c.in_ok-stands_in.ensures.no (ap Ok c.if-branch.false)) c.requires.apart in
    let n = c.in_ok-narrow_all.ensures.narrowed in
    grown_more _ _ _ _ c.in_ok-narrow_all.ensures.grown c.in_ok-link.ensures.state
    (λ each. (is_bound_end _ _ c.narrow_all.new.store c.link.new.self _ _ _ _ (end_is _ _ _ _ _ _ b n c.find-end.ensures.leads) refl b n c.in_ok-link.ensures.state c.in_ok-link.ensures.solutions c.in_ok-link.ensures.fewer).apart)

pub returns-clause-bound : goal.returns-clause-bound
returns-clause-bound c =
    let b = binding_of _ _ _ _ c.requires.inside c.flag_of-flag.ensures c.requires.target c.requires.end c.requires.rest (c.in_ok-stands_in.ensures.no (ap Ok c.if-branch.false)) c.requires.apart in
    let n = c.in_ok-narrow_all.ensures.narrowed in
    is_bound_end _ _ c.narrow_all.new.store c.link.new.self _ _ _ _ (end_is _ _ _ _ _ _ b n c.find-end.ensures.leads) refl b n c.in_ok-link.ensures.state c.in_ok-link.ensures.solutions c.in_ok-link.ensures.fewer
