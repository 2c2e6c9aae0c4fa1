-- Lines are read one after the other.
use Rattle.std.proofs.Common.{◌≡◌, ◌≤◌, ℕ, refl, sym, ◌∙◌, ap, subst, List, [], ◌∷◌, ◌++◌, take, drop, length, map, Option, Some, None, Result, Ok, Err}
use Rattle.std.proofs.lemmas.List.{append_assoc, append-nil, take-map, drop-map}
use denote.Ref.{Bor}
use Rattle.elm_base.specs.Lexemes.{Lexeme, lexeme}
use Rattle.elm_base.specs.declared.token.Token.{Token}
use Rattle.elm_base.specs.declared.memory.Halt.{Halt}
use Rattle.elm_base.specs.declared.memory.Halt.TheVariants as halt
use Rattle.elm_base.specs.declared.tree.Declaration.{Declaration}
use Rattle.layout_lexer.specs.declared.place.TextFault.{TextFault}
use Rattle.elm_library.specs.declared.mark.Mark.{Mark}
use Rattle.elm_library.specs.declared.reading.Line.{Line}
use Rattle.elm_library.specs.Marks.{mark_of, number_behind, line_len, Declares}
use Rattle.elm_library.specs.Reading.{Lines, FaultyBehind, bad_line}
use Rattle.elm_library.specs.Answers.{PushesLine}
use Rattle.elm_library.specs.Reaching.{ReadsLines, IsNextLine}

-- the first line is pushed, and the others are read
pub one_more : (ts : List Lexeme) (next : Line) (number last : ℕ) (old now new : List Declaration) (answer : Result (Bor (List Token)) (Halt TextFault))
    → IsNextLine ts (Some next) → (d : Declaration) → Declares next.mark (lexeme next.first.now).at number (map lexeme next.line.now) d → now ≡ old ++ d ∷ []
    → ReadsLines (number_behind next.mark number) (map lexeme next.behind.now) now last new answer → ReadsLines number ts old last new answer
one_more ts next number last old now new (Ok rest) (more, short, whole, at, line, behind) d says grown (ds, lines, e) = (
  d ∷ ds,
  subst (λ ys. Lines number ys (d ∷ ds) last (map lexeme rest.now)) (sym whole) (
    next.mark,
    at,
    subst (λ ys. Declares next.mark (lexeme next.first.now).at number ys d) line says,
    subst (λ ys. Lines (number_behind next.mark number) ys ds last (map lexeme rest.now)) behind lines,
  ),
  e ∙ ap (λ ys. ys ++ ds) grown ∙ append_assoc old (d ∷ []) ds,
)
one_more ts next number last old now new (Err (halt.Because f)) (more, short, whole, at, line, behind) d says grown (ds, faulty) = (
  d ∷ ds,
  subst (λ ys. FaultyBehind number ys (d ∷ ds) f) (sym whole) (
    next.mark,
    at,
    subst (λ ys. Declares next.mark (lexeme next.first.now).at number ys d) line says,
    subst (λ ys. FaultyBehind (number_behind next.mark number) ys ds f) behind faulty,
  ),
)
one_more ts next number last old now new (Err halt.NoMemory) is d says grown reads = reads

-- the first line declares nothing
pub none_more : (ts : List Lexeme) (next : Line) (number last : ℕ) (old new : List Declaration) (f : TextFault)
    → IsNextLine ts (Some next) → (f ≡ bad_line (lexeme next.first.now)) × ((d : Declaration) → Declares next.mark (lexeme next.first.now).at number (map lexeme next.line.now) d → ⊥)
    → ReadsLines number ts old last new (Err (halt.Because f))
none_more ts next number last old new f (more, short, whole, at, line, behind) (is, none) = (
  [],
  subst (λ ys. FaultyBehind number ys [] f) (sym whole)
      (next.mark, at, (λ d says. none d (subst (λ ys. Declares next.mark (lexeme next.first.now).at number ys d) (sym line) says)), is),
)
