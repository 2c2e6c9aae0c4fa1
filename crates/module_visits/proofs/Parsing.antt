-- What a text's tokens say of the text.
use Rattle.std.proofs.Common.{◌≡◌, List, ℕ, Result, Ok, Err, refl, inr}
use Rattle.std.specs.Prelude.{IfOk, IfErr}
use Rattle.elm_base.specs.Lexemes.{Lexeme}
use Rattle.elm_base.specs.declared.tree.Module.{Module}
use Rattle.elm_base.specs.declared.memory.Halt.{Halt}
use Rattle.elm_base.specs.declared.memory.Halt.TheVariants as halt
use Rattle.layout_lexer.specs.declared.place.TextFault.{TextFault}
use Rattle.layout_lexer.specs.Tokens.{Tokens}
use Rattle.module_grammar.specs.Modules.{DerivesModule, FirstFault, Fit, Nest}
use Rattle.module_visits.specs.Reading.{Parses}

pub parses_tokens : (text : List ℕ) (ts : List Lexeme) (r : Result Module (Halt TextFault)) → Tokens text ts
    → IfOk r (λ m. DerivesModule ts m) → IfOk r (λ m. Nest m.declarations) → IfOk r (λ m. Fit m.declarations)
    → IfErr r (λ cause. (f : TextFault) → cause ≡ halt.Because f → FirstFault ts f)
    → Parses text r
parses_tokens text ts (Ok m) cut derives nests fits faulty = record { tokens = ts; cut = cut; derives = derives; nests = nests; fits = fits }
parses_tokens text ts (Err (halt.Because f)) cut derives nests fits faulty = inr (ts, cut, faulty f refl)
parses_tokens text ts (Err halt.NoMemory) cut derives nests fits faulty = tt
