-- What the plain function gives, as the public contract says it.
use Rattle.std.proofs.Common.{◌≡◌, Bool, false, ◌⊎◌, List, [], ◌∷◌, ◌++◌, Option, Some, None, Result, Ok, Err, MatchResult, IfOk, IfErr, refl, sym, ap, ◌∙◌, subst, inl, inr, append_assoc}
use Rattle.elm_base.specs.declared.memory.Halt.{Halt}
use Rattle.elm_base.specs.declared.memory.Halt.TheVariants.{Because, NoMemory}
use Rattle.elm_base.specs.declared.token.TokenKind.{TokenKind}
use Rattle.elm_base.specs.Lexemes.{Lexeme}
use Rattle.layout_lexer.specs.declared.place.TextFault.{TextFault}
use Rattle.layout_lexer.specs.Chars.{Text}
use Rattle.layout_lexer.specs.Places.{place_after}
use Rattle.layout_lexer.specs.Cuts.{Part, Cut, joins, lexemes, listed}
use Rattle.layout_lexer.specs.Tokens.{Stands, Tokens, FirstFault, AreSlices, OnBecause}
use Rattle.layout_lexer.specs.Scan.{Scans, Stops}
use Rattle.layout_lexer.proofs.Laws.{scans_tokens, stops_first, one_list, one_fault, not_both}

-- slices behind a front are slices
after_front : (s rest whole : Text) (list : List Lexeme) → whole ≡ s ++ rest → AreSlices rest list → AreSlices whole list
after_front s rest whole [] e slices = tt
after_front s rest whole (t ∷ ts) e slices =
    (s ++ slices.0, slices.1, e ∙ ap (λ x. s ++ x) slices.2 ∙ sym (append_assoc s (slices.0 ++ t.text) slices.1) ∙ ap (λ x. x ++ slices.1) (sym (append_assoc s slices.0 t.text)), slices.3)

cut_slices : (joined : Bool) (whole before : Text) (parts : List Part) (after : Text) → Cut Stands joined whole parts after → AreSlices whole (lexemes before parts)
cut_slices joined whole before [] after cut = tt
cut_slices joined whole before (p ∷ ps) after cut = go p.kind (cut_slices (joins p.kind p.text) cut.0 (before ++ p.text) ps after cut.3)
  where
    go : (k : Option TokenKind) → AreSlices cut.0 (lexemes (before ++ p.text) ps) → AreSlices whole (listed k p.text (place_after before) (lexemes (before ++ p.text) ps))
    go None more = after_front p.text cut.0 whole (lexemes (before ++ p.text) ps) cut.1 more
    go (Some k) more = ([], cut.0, cut.1, more)

slices_of : (whole : Text) (list : List Lexeme) → Tokens whole list → AreSlices whole list
slices_of whole list t = subst (AreSlices whole) (sym t.same) (cut_slices false whole [] t.parts [] t.cut)

module _ {X : Type 0} (list_of : X → List Lexeme) (text : Text) where
  abbrev pub ScanOk : Result X (Halt TextFault) → Type 0
  ScanOk r = IfOk r (λ x. Scans text (list_of x))

  abbrev pub ScanErr : Result X (Halt TextFault) → Type 0
  ScanErr r = IfErr r (λ h. OnBecause h (λ f. Stops text f))

  pub all_listed : (r : Result X (Halt TextFault)) → ScanOk r → ScanErr r → IfOk r (λ x. Tokens text (list_of x))
  all_listed (Ok x) ok err = scans_tokens text (list_of x) ok
  all_listed (Err h) ok err = tt

  pub in_slices : (r : Result X (Halt TextFault)) → ScanOk r → ScanErr r → IfOk r (λ x. AreSlices text (list_of x))
  in_slices (Ok x) ok err = slices_of text (list_of x) (scans_tokens text (list_of x) ok)
  in_slices (Err h) ok err = tt

  pub first_refused : (r : Result X (Halt TextFault)) → ScanOk r → ScanErr r → IfErr r (λ h. OnBecause h (λ f. FirstFault text f))
  first_refused (Ok x) ok err = tt
  first_refused (Err (Because f)) ok err = stops_first text f err
  first_refused (Err NoMemory) ok err = tt

  pub exactly : (r : Result X (Halt TextFault)) → ScanOk r → ScanErr r → (list : List Lexeme) → Tokens text list → MatchResult r (λ x. list_of x ≡ list) (λ h. h ≡ NoMemory)
  exactly (Ok x) ok err list t = one_list text (list_of x) list (scans_tokens text (list_of x) ok) t
  exactly (Err (Because f)) ok err list t = absurd (not_both text list f t (stops_first text f err))
  exactly (Err NoMemory) ok err list t = refl

  pub exact_fault : (r : Result X (Halt TextFault)) → ScanOk r → ScanErr r → (f : TextFault) → FirstFault text f → MatchResult r (λ x. ⊥) (λ h. (h ≡ Because f) ⊎ (h ≡ NoMemory))
  exact_fault (Ok x) ok err f g = absurd (not_both text (list_of x) f (scans_tokens text (list_of x) ok) g)
  exact_fault (Err (Because e)) ok err f g = inl (ap (λ x. Because x) (one_fault text e f (stops_first text e err) g))
  exact_fault (Err NoMemory) ok err f g = inr refl
