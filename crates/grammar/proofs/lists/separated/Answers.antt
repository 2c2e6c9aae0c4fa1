use Rattle.std.proofs.Common.{rules, arith}
use Rattle.std.proofs.lemmas.Grind.{common_steps}
use Rattle.grammar.specs.Lists.{separated}
use Rattle.grammar.proofs.lists.separated.Goals as goal

pub returns : goal.returns
unfolding separated
returns g c = λ p r.
    let e = c.behind_commas.ensures p r in
    let f = r.reads _ _ _ c.in_ok-next.ensures in
    first_of (search rules, grind (arith, common_steps))
