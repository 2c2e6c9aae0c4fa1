use Rattle.std.proofs.Common.{arith}
use Rattle.elm_library.proofs.Texts.{texts_next, texts_end}
use Rattle.elm_library.proofs.reading.read.Goals as goal

pub loop-source-preserved : goal.loop-source-preserved
loop-source-preserved c =
    let (m, is, grown) = c.in_ok-push_module.ensures in
    texts_next c.args.sources.now c.loop-source.source-index _ c.loop-source.number c.push_module.new.number c.loop-source.found c.push_module.new.out
    c.loop-source-test.true c.loop-source.invariant m is grown

pub returns-clause-modules : goal.returns-clause-modules
returns-clause-modules c =
    texts_end c.args.sources.now c.loop-source.source-index c.loop-source.number c.loop-source.found (omega (arith, c.loop-source-test.false)) c.loop-source.invariant
