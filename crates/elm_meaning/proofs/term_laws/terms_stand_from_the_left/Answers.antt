use Rattle.std.proofs.Common.{[]}
use Rattle.elm_meaning.proofs.Forms.{trees_after-next}
use Rattle.elm_meaning.proofs.term_laws.terms_stand_from_the_left.Goals as goal

pub returns : goal.returns
returns c = record { next = trees_after-next [] }
