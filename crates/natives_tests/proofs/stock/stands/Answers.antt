use Rattle.std.proofs.Common.{take, get_or, sym, subst, arith}
use Rattle.std.proofs.lemmas.List.{take_more, take_all}
use Rattle.value_arena.specs.Soundness.{RefsBelow}
use Rattle.value_natives.proofs.Spines.{below_push}
use Rattle.natives_tests.proofs.stock.stands.Goals as goal

pub loop-at-preserved : goal.loop-at-preserved
loop-at-preserved c =
    let refs = c.args.refs.now in
    let i = c.loop-at.at-index in
    subst (RefsBelow c.args.below) (sym (take_more refs i 0 c.loop-at-test.true))
    (below_push c.args.below (take i refs) (get_or refs i 0) c.loop-at.invariant (omega arith))

pub returns : goal.returns
returns c = λ h. subst (RefsBelow c.args.below) (take_all c.loop-at.at-index c.args.refs.now c.loop-at-test.false) c.loop-at.invariant
