use Rattle.std.proofs.Common.{◌≡◌, ◌+◌, map, drop}
use Rattle.elm_base.specs.Lexemes.{lexeme}
use Rattle.grammar.specs.Reader.{right}
use Rattle.grammar.proofs.cursor.right.Given as goal

abbrev pub invariant-loop-token : goal.invariant-loop-token
invariant-loop-token l = record {
  count : l.count ≡ l.token-index;
  value : right l.column (map lexeme l.tokens) ≡ l.token-index + right l.column (map lexeme (drop l.token-index l.tokens));
}
