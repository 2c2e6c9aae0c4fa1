-- Comments: to the end of the line, and nested.
use Rattle.std.specs.Prelude.{◌≡◌, ℕ, zero, suc, ⊤, Bool, false, not, ◌==◌, ◌⊎◌, [], ◌∷◌}
use Rattle.layout_lexer.specs.Chars.{Text}
use Rattle.layout_lexer.specs.Marks.{opens}

-- the text is at an end of a line
abbrev pub EndsLine : Text → Type 0
EndsLine [] = ⊤
EndsLine (b ∷ bs) = b ≡ 10

-- a line ends here, or after a backslash
abbrev pub EndsTextLine : Text → Type 0
EndsTextLine rest = EndsLine rest ⊎ ((more : Text) × (rest ≡ 92 ∷ more) × EndsLine more)

abbrev pub is_line_byte : ℕ → Bool
is_line_byte b = not (b == 10)

-- The text begins with the inside of a comment and its `-}`, and then comes `after`. The inside is comments and other bytes; the number bounds how many.
abbrev pub closes_within : ℕ → Text → Text → Type 0
closes_within zero text after = ⊥
closes_within (suc n) text after =
    (text ≡ 45 ∷ 125 ∷ after)
    ⊎ (((inner : Text) × (mid : Text) × (text ≡ 123 ∷ 45 ∷ inner) × closes_within n inner mid × closes_within n mid after)
    ⊎ ((b : ℕ) × (more : Text) × (text ≡ b ∷ more) × (opens 123 45 text ≡ false) × (opens 45 125 text ≡ false) × closes_within n more after))

abbrev pub Closes : Text → Text → Type 0
Closes text after = (n : ℕ) × closes_within n text after
