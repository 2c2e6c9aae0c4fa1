use Rattle.std.proofs.Common.{arith}
use Rattle.decl_faults.proofs.Surplus.{none_behind, behind}
use Rattle.decl_faults.proofs.ports.push_surplus.Goals as goal

pub returns-then-len-le-MAX_INBOUND : goal.returns-then-len-le-MAX_INBOUND
returns-then-len-le-MAX_INBOUND c =
    none_behind c.args.out.now c.in_ok-ports.ports c.args.declarations.now c.in_ok-ports.ensures
    (let few = c.if-len-le-MAX_INBOUND.true in let long = c.len.ensures in omega (arith, few, long))

pub returns : goal.returns
returns c =
    behind c.push_copies.result c.push_copies.new.out c.args.out.now c.in_ok-ports.ports c.as_slice.result.now c.args.declarations.now c.in_ok-ports.ensures
    c.as_slice.ensures c.push_copies.ensures
