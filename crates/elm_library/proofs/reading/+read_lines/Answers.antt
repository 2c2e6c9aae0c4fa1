use Rattle.std.proofs.Common.{ℕ, map, subst}
use Rattle.elm_base.specs.Lexemes.{lexeme}
use Rattle.elm_library.specs.Reaching.{ReadsLines}
use Rattle.elm_library.proofs.Turns.{one_more}
use Rattle.elm_library.proofs.reading.+read_lines.Goals as goal

pub returns-in_ok-push_declared-in-Some : goal.returns-in_ok-push_declared-in-Some
returns-in_ok-push_declared-in-Some t c =
    let (d, says, grown) = c.in_ok-push_declared-in-Some.ensures in
    let others = subst (λ (n : ℕ). ReadsLines n (map lexeme c.in-Some.next.behind.now) c.push_declared.new.out c.read_lines.new.number c.read_lines.new.out c.read_lines.result) c.number_behind.ensures c.read_lines.ensures in
    one_more (map lexeme c.args.tokens.now) c.in-Some.next c.args.number.now c.read_lines.new.number c.args.out.now c.push_declared.new.out c.read_lines.new.out c.read_lines.result
    c.in-Some.ensures d says grown others
