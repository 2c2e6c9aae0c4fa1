use Rattle.port_inputs.specs.Fit.{IsMissing, Differs}
use Rattle.port_inputs.proofs.Fitting.{first_of, one_fits, all_fit}
use Rattle.port_inputs.proofs.fit.first_misfit.Goals as goal

pub returns-in-Missing : goal.returns-in-Missing
returns-in-Missing c =
    first_of (IsMissing c.args.inputs.now) c.args.inputs.now c.args.events.now c.loop-at.at c.index-events-at.result c.loop-at-test.true c.index-events-at.is c.loop-at.invariant c.in-Missing.ensures

pub returns-in-Differs : goal.returns-in-Differs
returns-in-Differs c =
    first_of (Differs c.args.inputs.now) c.args.inputs.now c.args.events.now c.loop-at.at c.index-events-at.result c.loop-at-test.true c.index-events-at.is c.loop-at.invariant c.in-Differs.ensures

pub loop-at-preserved : goal.loop-at-preserved
loop-at-preserved c =
    one_fits c.args.inputs.now c.args.events.now c.loop-at.at c.index-events-at.result c.loop-at-test.true c.index-events-at.is c.loop-at.invariant c.in-Fits.ensures

pub returns : goal.returns
returns c = all_fit c.args.inputs.now c.args.events.now c.loop-at.at c.loop-at-test.false c.loop-at.invariant
