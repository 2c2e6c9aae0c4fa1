use Rattle.type_unify.proofs.PartLists.{closed_count, open_count}
use Rattle.type_unify.proofs.parts.part_count.Goals as goal

pub returns-in-None : goal.returns-in-None
returns-in-None c = closed_count _ _ _ _ c.in-Row.is c.in-None.is c.as_slice-count.ensures

pub returns-in-Some : goal.returns-in-Some
returns-in-Some c = open_count _ _ _ _ _ c.in-Row.is c.in-Some.is c.as_slice-count.ensures
