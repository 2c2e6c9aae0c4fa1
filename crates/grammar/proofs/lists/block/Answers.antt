use Rattle.std.proofs.Common.{rules, arith}
use Rattle.std.proofs.lemmas.Grind.{common_steps}
use Rattle.grammar.specs.Reader.{block}
use Rattle.grammar.proofs.lists.block.Goals as goal

pub returns-in_err-item : goal.returns-in_err-item
unfolding block
returns-in_err-item g c = λ p r. let e = c.in_err-item.ensures p r in first_of (search rules, grind (arith, common_steps))

pub returns : goal.returns
unfolding block
returns g c = λ p r.
    let e = c.items.ensures p r in
    let f = c.in_ok-item.ensures p r in
    first_of (search rules, grind (arith, common_steps))
