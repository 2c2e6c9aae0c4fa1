use Rattle.module_names.proofs.Repeats.{pushed}
use Rattle.module_names.proofs.flaws.push_repeated.Goals as goal

pub loop-at-preserved : goal.loop-at-preserved
loop-at-preserved c =
    pushed c.args.out.now c.loop-at.out c.push_again.new.out c.args.spots.now c.loop-at.at c.index-spots-at.result c.loop-at-test.true c.index-spots-at.is
    c.loop-at.invariant c.in_ok-push_again.ensures
