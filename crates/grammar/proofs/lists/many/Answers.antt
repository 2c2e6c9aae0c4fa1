use Rattle.std.proofs.Common.{rules, arith}
use Rattle.std.proofs.lemmas.Grind.{common_steps}
use Rattle.grammar.proofs.lists.many.Goals as goal

pub returns : goal.returns
returns g c = λ p r. let e = c.many_more.ensures p r in first_of (search rules, grind (arith, common_steps))
