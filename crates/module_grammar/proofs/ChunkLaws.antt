-- A chunk is the first token and those behind it that stand to the right of column 1.
use Rattle.std.proofs.Common.{◌≡◌, suc, Bool, true, false, if◌then◌else◌, List, [], ◌∷◌, take, drop, refl, sym, ◌∙◌, ap, ltb}
use Rattle.elm_base.specs.Lexemes.{Lexeme}
use Rattle.grammar.specs.Reader.{right, extent, is_done}
use Rattle.module_grammar.specs.Chunks.{with_token, chunks}

cut : (t : Lexeme) (ts : List Lexeme) → chunks (t ∷ ts) ≡ (t ∷ take (right 1 ts) ts) ∷ chunks (drop (right 1 ts) ts)
cut t [] = refl
cut t (u ∷ us) = ap (with_token t) (cut u us) ∙ go (cut u us) (ltb 1 u.at.column)
  where
    go : chunks (u ∷ us) ≡ (u ∷ take (right 1 us) us) ∷ chunks (drop (right 1 us) us) → (b : Bool)
        → (if b then (t ∷ u ∷ take (right 1 us) us) ∷ chunks (drop (right 1 us) us) else (t ∷ []) ∷ (u ∷ take (right 1 us) us) ∷ chunks (drop (right 1 us) us))
        ≡ (t ∷ take (if b then suc (right 1 us) else 0) (u ∷ us)) ∷ chunks (drop (if b then suc (right 1 us) else 0) (u ∷ us))
    go e true = refl
    go e false = ap (λ z. (t ∷ []) ∷ z) (sym e)

-- where tokens are left
pub cut_off : (ts : List Lexeme) → is_done ts ≡ false → chunks ts ≡ take (extent 1 ts) ts ∷ chunks (drop (extent 1 ts) ts)
cut_off [] e = cc
cut_off (t ∷ ts) e = cut t ts
