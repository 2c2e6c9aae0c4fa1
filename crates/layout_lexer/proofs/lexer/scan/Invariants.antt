use Rattle.std.proofs.Common.{map, length}
use Rattle.elm_base.specs.Lexemes.{lexeme}
use Rattle.layout_lexer.proofs.Lexing.{Read}
use Rattle.layout_lexer.proofs.lexer.scan.Given as goal

abbrev pub invariant-loop-left : goal.invariant-loop-left
invariant-loop-left l = Read l.text (map lexeme l.found.items) l.at l.is_joined l.left

abbrev pub decreases-loop-left : goal.decreases-loop-left
decreases-loop-left l = length l.left
