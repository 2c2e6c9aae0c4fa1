use Rattle.type_terms.specs.Depth.{weight}
use Rattle.type_unify.proofs.Reading.{ReadsRow}
use Rattle.type_unify.proofs.rows.flatten.Given as goal

abbrev pub invariant-rests : goal.invariant-rests
invariant-rests l = ReadsRow l.store l.at l.fields l.end

abbrev pub decreases-rests : goal.decreases-rests
decreases-rests l = weight l.store l.end
