use Rattle.elm_meaning.proofs.Pairs.{visited_some}
use Rattle.elm_meaning.proofs.comparison_laws.each_comparison_visits_a_pair.Goals as goal

pub returns : goal.returns
returns c = visited_some
