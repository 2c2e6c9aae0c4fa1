use Rattle.std.proofs.Common.{arith}
use Rattle.type_unify.proofs.PartLists.{closed_count, open_count, closed_part, open_part}
use Rattle.type_unify.proofs.parts.part.Goals as goal

pub offset_bounds-as_slice-at-in-None : goal.offset_bounds-as_slice-at-in-None
offset_bounds-as_slice-at-in-None c =
    omega (arith, closed_count _ _ _ _ c.in-Row.is c.in-None.is c.as_slice-in-None.ensures)

pub bounds-as_slice-at-in-None : goal.bounds-as_slice-at-in-None
bounds-as_slice-at-in-None c =
    omega (arith, closed_count _ _ _ _ c.in-Row.is c.in-None.is c.as_slice-in-None.ensures)

pub bounds-as_slice-at-in-None-2 : goal.bounds-as_slice-at-in-None-2
bounds-as_slice-at-in-None-2 c =
    omega (arith, closed_count _ _ _ _ c.in-Row.is c.in-None.is c.as_slice-in-None.ensures)

pub returns-in-None : goal.returns-in-None
returns-in-None c = closed_part _ _ _ _ c.args.at _ c.in-Row.is c.in-None.is c.as_slice-in-None.ensures c.requires

pub offset_bounds-as_slice-at-else-at-eq0-2 : goal.offset_bounds-as_slice-at-else-at-eq0-2
offset_bounds-as_slice-at-else-at-eq0-2 c =
    omega (arith, open_count _ _ _ _ _ c.in-Row.is c.in-Some.is c.as_slice-else-at-eq0-2.ensures)

pub bounds-as_slice-at-else-at-eq0-2 : goal.bounds-as_slice-at-else-at-eq0-2
bounds-as_slice-at-else-at-eq0-2 c =
    omega (arith, open_count _ _ _ _ _ c.in-Row.is c.in-Some.is c.as_slice-else-at-eq0-2.ensures)

pub bounds-as_slice-at-else-at-eq0-2-2 : goal.bounds-as_slice-at-else-at-eq0-2-2
bounds-as_slice-at-else-at-eq0-2-2 c =
    omega (arith, open_count _ _ _ _ _ c.in-Row.is c.in-Some.is c.as_slice-else-at-eq0-2.ensures)

pub returns-else-at-eq0-2 : goal.returns-else-at-eq0-2
returns-else-at-eq0-2 c = open_part _ _ _ _ _ c.args.at _ c.in-Row.is c.in-Some.is c.as_slice-else-at-eq0-2.ensures c.requires c.if-at-eq0-2.false
