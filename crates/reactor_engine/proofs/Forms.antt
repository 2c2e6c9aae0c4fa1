-- The token of the port's name among the tokens of a project.
use Rattle.std.proofs.Common.{◌≡◌, ◌∙◌, List, map, Option, sym, ap}
use Rattle.std.specs.Prelude.{slice_get}
use Rattle.std.specs.Option.{option_map}
use Rattle.std.proofs.lemmas.Option.{slice_get-map}
use Rattle.elm_base.specs.declared.token.Token.{Token}
use Rattle.elm_base.specs.Lexemes.{lexeme}
use Rattle.reactor_engine.specs.Project.{port_among, port_of}

pub eighth : (tokens : List Token) (found : Option Token) → found ≡ slice_get tokens 7 → port_among (map lexeme tokens) (option_map lexeme found) ≡ port_of (map lexeme tokens)
eighth tokens found is = ap (λ o. port_among (map lexeme tokens) (option_map lexeme o)) is ∙ ap (port_among (map lexeme tokens)) (sym (slice_get-map lexeme tokens 7))
