use Rattle.std.proofs.Common.{ap}
use Rattle.elm_meaning.specs.PairsVisited.{within}
use Rattle.elm_meaning.proofs.Symmetric.{visited_symmetric}
use Rattle.elm_meaning.proofs.comparison_laws.equality_is_symmetric.Goals as goal

pub returns : goal.returns
returns c = λ v w fuel. ap (within fuel) (visited_symmetric v w)
