use Rattle.std.proofs.Common.{◌∙◌, sym, arith}
use Rattle.type_terms.specs.Terms.{nodes_of, itself}
use Rattle.type_terms.proofs.Sound.{inside-link, weight-link, links-on}
use Rattle.type_terms.proofs.Solved.{links-same}
use Rattle.type_terms.proofs.store.Store.find.Goals as goal

pub loop-to-init : goal.loop-to-init
loop-to-init c = record { inside = c.requires; leads = itself; lighter = omega arith }

pub loop-to-smaller : goal.loop-to-smaller
loop-to-smaller c = weight-link c.args.self.now c.loop-to.end c.in-Link.to c.node.ensures.sound (sym c.node.ensures.node ∙ c.in-Link.is)

pub loop-to-preserved : goal.loop-to-preserved
loop-to-preserved c =
    let e = sym c.node.ensures.node ∙ c.in-Link.is in
    let lighter = weight-link c.args.self.now c.loop-to.end c.in-Link.to c.node.ensures.sound e in
    record {
      inside = inside-link (nodes_of c.args.self.now) c.loop-to.end c.in-Link.to _ c.node.ensures.sound e;
      leads = links-on (nodes_of c.args.self.now) c.loop-to.end c.in-Link.to c.args.at c.loop-to.invariant.leads e;
      lighter = omega (arith, lighter, c.loop-to.invariant.lighter);
    }

pub returns-clause-same : goal.returns-clause-same
returns-clause-same c = λ s h. links-same (nodes_of c.args.self.now) s c.loop-to.end c.args.at h c.loop-to.invariant.leads
