use Rattle.std.proofs.Common.{map, subst, sym}
use Rattle.elm_base.specs.Lexemes.{lexeme}
use Rattle.layout_lexer.specs.Tokens.{Tokens}
use Rattle.module_visits.proofs.Parsing.{parses_tokens}
use Rattle.module_visits.proofs.opening.parsed.Goals as goal

pub returns-in-Ok : goal.returns-in-Ok
returns-in-Ok c =
    parses_tokens _ _ _ (subst (λ ts. Tokens c.args.text.now (map lexeme ts)) (sym c.as_slice.ensures.value) c.in-Ok.ensures.listed)
    c.«module».ensures.derives c.«module».ensures.nests c.«module».ensures.fits c.«module».ensures.refused
