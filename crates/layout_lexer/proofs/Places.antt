-- A place after two texts, from the place after the first.
use Rattle.std.proofs.Common.{◌≡◌, ℕ, ◌+◌, Bool, true, false, cond, [], ◌∷◌, ◌++◌, reverse, refl, sym, ap, ◌∙◌, append_assoc, append-nil, arith, eqb}
use Rattle.std.proofs.lemmas.List.{reverse-append}
use Rattle.std.proofs.lemmas.Grind.{fold-append}
use Rattle.layout_lexer.specs.Chars.{Text, is_continuation}
use Rattle.layout_lexer.specs.Places.{counted, newlines, chars_back, place_after, step, steps}

counted_more : (n : ℕ) → counted (counted n + 1) ≡ counted (n + 1)
counted_more n = omega arith

newlines_push : (a : Text) (b : ℕ) → newlines (a ++ b ∷ []) ≡ newlines a + cond (eqb b 10) 1 0
newlines_push a b = fold-append (λ n x. n + cond (eqb x 10) 1 0) 0 a (b ∷ [])

module _ (a : Text) (b : ℕ) where
  at_line_end : eqb b 10 ≡ true → step (place_after a) b ≡ place_after (a ++ b ∷ [])
  unfolding place_after
  at_line_end e = rw (newlines_push a b, reverse-append a (b ∷ []), e) (ap (λ (n : ℕ). record { line = n; column = 1 }) (counted_more (newlines a + 1)))

  in_line : eqb b 10 ≡ false → step (place_after a) b ≡ place_after (a ++ b ∷ [])
  unfolding place_after
  in_line e = rw (newlines_push a b, reverse-append a (b ∷ []), e) (go (is_continuation b))
    where
      go : (t : Bool) → cond t (place_after a) (record { line = (place_after a).line; column = counted ((place_after a).column + 1) })
          ≡ record { line = counted (newlines a + 0 + 1); column = counted (cond t (chars_back (reverse a)) (chars_back (reverse a) + 1) + 1) }
      go true = ap (λ (n : ℕ). record { line = counted n; column = counted (chars_back (reverse a) + 1) }) (omega arith)
      go false = rw (counted_more (chars_back (reverse a) + 1)) (ap (λ (n : ℕ). record { line = counted n; column = counted (chars_back (reverse a) + 1 + 1) }) (omega arith))

  pub step_more : step (place_after a) b ≡ place_after (a ++ b ∷ [])
  step_more = split (eqb b 10) refl
    where
      split : (t : Bool) → eqb b 10 ≡ t → step (place_after a) b ≡ place_after (a ++ b ∷ [])
      split true e = at_line_end e
      split false e = in_line e

pub steps_more : (a s : Text) → steps (place_after a) s ≡ place_after (a ++ s)
steps_more a [] = ap place_after (sym (append-nil a))
steps_more a (b ∷ bs) = ap (λ at. steps at bs) (step_more a b) ∙ steps_more (a ++ b ∷ []) bs ∙ ap place_after (append_assoc a (b ∷ []) bs)

pub steps_from_start : (s : Text) → steps (place_after []) s ≡ place_after s
steps_from_start s = steps_more [] s
