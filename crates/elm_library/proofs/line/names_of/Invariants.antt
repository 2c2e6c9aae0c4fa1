use Rattle.std.proofs.Common.{◌≡◌, take, map}
use Rattle.elm_base.specs.Lexemes.{lexeme}
use Rattle.elm_library.proofs.line.names_of.Given as goal

abbrev pub invariant-loop-token : goal.invariant-loop-token
invariant-loop-token l = l.names ≡ map (λ t. t.text) (map lexeme (take l.token-index l.tokens))
