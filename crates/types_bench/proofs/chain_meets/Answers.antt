use Rattle.types_bench.proofs.chain_meets.Goals as goal

pub unify-requires-clause-first : goal.unify-requires-clause-first
unify-requires-clause-first c = c.in_ok-next.ensures.keeps.types _ c.loop.invariant.last

pub loop-preserved : goal.loop-preserved
loop-preserved c = record {
  first = c.in-Ok.ensures.unified.types _ (c.in_ok-next.ensures.keeps.types _ c.loop.invariant.first);
  last = c.in-Ok.ensures.unified.types _ c.in_ok-next.ensures.is_type;
}
