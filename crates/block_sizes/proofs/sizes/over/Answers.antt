use Rattle.std.proofs.Common.{arith, take_all, map, length, ap, ◌≡◌, ◌≤◌}
use Rattle.block_sizes.specs.BlockSizes.{defined_at, present, most_definitions, over}
use Rattle.block_sizes.proofs.OverLaws.{over_here, counted_on, none_over}
use Rattle.block_sizes.proofs.sizes.over.Goals as goal

pub returns-in-None : goal.returns-in-None
returns-in-None c =
    over_here defined_at c.args.declarations.now c.loop-declaration.declaration-index c.declaration-item.result c.defined_at-line.result c.loop-declaration-test.true c.declaration-item.is
    c.defined_at-line.ensures c.in-None.ensures.1 (let none = c.in-None.ensures.0 in omega (arith, none, c.loop-declaration.invariant))

pub loop-declaration-preserved : goal.loop-declaration-preserved
loop-declaration-preserved c =
    counted_on defined_at c.args.declarations.now c.loop-declaration.declaration-index c.declaration-item.result c.defined_at-line.result c.loop-declaration-test.true c.declaration-item.is
    c.defined_at-line.ensures c.in-Some.next c.loop-declaration.left c.in-Some.ensures c.loop-declaration.invariant

pub returns : goal.returns
returns c =
    let same = ap (λ z. length (present (map defined_at z))) (take_all c.loop-declaration.declaration-index c.args.declarations.now c.loop-declaration-test.false) in
    let none = none_over (map defined_at c.args.declarations.now) (omega (arith, same, c.loop-declaration.invariant)) in cc
