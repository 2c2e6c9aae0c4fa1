use Rattle.std.proofs.Common.{◌≡◌, ◌+◌, ◌*◌, ◌-◌, drop, get_or, refl, arith}
use Rattle.grammar.specs.Spelling.{number, number_after}
use Rattle.grammar.proofs.SpellingLaws.{number_after-le, number_turn}
use Rattle.grammar.proofs.spelling.number.Goals as goal

pub returns-in-None : goal.returns-in-None
returns-in-None c =
    let text = c.args.text.now in
    let i = c.loop-digit.digit-index in
    let n = c.loop-digit.number in
    let so_far : number text ≡ number_after n (drop i text) = c.loop-digit.invariant in
    let turn = number_turn text i n (get_or text i 0) c.loop-digit-test.true refl in
    let large = c.in-None.ensures in
    let more = number_after-le (n * 10 + (get_or text i 0 - 48)) (drop (i + 1) text) in
    omega (arith, so_far, turn, large, more)
