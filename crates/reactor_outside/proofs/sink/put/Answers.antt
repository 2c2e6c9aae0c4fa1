use Rattle.std.proofs.Common.{◌∙◌, ap, arith, length, take}
use Rattle.std.specs.List.{between}
use Rattle.reactor_outside.specs.Sink.{with_bytes}
use Rattle.reactor_outside.proofs.Taken.{took_more}
use Rattle.reactor_outside.proofs.sink.put.Goals as goal

pub loop-at-preserved : goal.loop-at-preserved
loop-at-preserved g c =
    let bytes = c.args.bytes.now in
    let at = c.loop-at.at in
    let n = c.in_ok-at.field-0 in record {
      within = omega (arith, c.in_ok-at.ensures.within);
      took = c.in_ok-at.ensures.took
          ∙ ap (with_bytes (take n (between at (length bytes) bytes))) c.loop-at.invariant.took
          ∙ took_more at n bytes (g.K.Sink.taken c.args.sink.now);
      count = c.in_ok-at.ensures.count ∙ c.loop-at.invariant.count;
    }
