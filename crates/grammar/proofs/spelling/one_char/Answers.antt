use Rattle.std.proofs.Common.{sym, ◌∙◌}
use Rattle.grammar.proofs.SpellingLaws.{no_char, char_of_one, char_of_more}
use Rattle.grammar.proofs.spelling.one_char.Goals as goal

pub returns-in-Err : goal.returns-in-Err
returns-in-Err c = no_char c.args.bytes.now c.in-Err.ensures.cases.0

pub returns-in-None : goal.returns-in-None
returns-in-None c =
    let whole = c.in-Ok.ensures.cases in
    let first = c.in_ok-first-in-Ok.ensures.steps.0 in
    let second = c.in-None.ensures.steps.0 in
    char_of_one c.args.bytes.now c.next.new.self.rest.now c.in_ok-first-in-Ok.first whole.1 (sym whole.0 ∙ sym c.chars-chars.ensures.rest ∙ first) second.0

pub returns-in-Some : goal.returns-in-Some
returns-in-Some c =
    let whole = c.in-Ok.ensures.cases in
    let first = c.in_ok-first-in-Ok.ensures.steps.0 in
    let second = c.in-Some.ensures.steps.0 in
    char_of_more c.args.bytes.now c.next.new.self.rest.now c.next-in-Ok.new.self.rest.now c.in_ok-first-in-Ok.first c.in-Some.field-0 whole.1
    (sym whole.0 ∙ sym c.chars-chars.ensures.rest ∙ first) second
