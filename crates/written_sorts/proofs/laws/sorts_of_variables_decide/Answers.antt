use Rattle.written_sorts.proofs.FromMarks.{well_sorted}
use Rattle.written_sorts.proofs.ToMarks.{can_be_sorted}
use Rattle.written_sorts.proofs.laws.sorts_of_variables_decide.Goals as goal

pub returns : goal.returns
returns c written bars = (can_be_sorted written, λ it. well_sorted it.0 written bars it.1)
