-- Kinds of bytes.
use Rattle.std.proofs.Common.{◌≡◌, ℕ, Bool, true, false, ◌||◌, sym, refl, ap, ◌∙◌}
use denote.Enum.Bare.{true_same, same_true}
use Rattle.layout_lexer.specs.contracts.byte_class.Class.{the_type}
use Rattle.layout_lexer.specs.declared.byte_class.Class.{Class}
use Rattle.layout_lexer.specs.declared.byte_class.Class.TheVariants.{Lower, Upper}
use Rattle.layout_lexer.specs.Chars.{class_of, is_in, is_letter}

pub its_class : (c : Class) (b : ℕ) → is_in c b ≡ true → class_of b ≡ c
unfolding is_in
its_class c b e = same_true the_type tt (class_of b) c e

pub is_in_its : (c : Class) (b : ℕ) → class_of b ≡ c → is_in c b ≡ true
unfolding is_in
is_in_its c b e = true_same the_type (class_of b) c e

pub lower_is_letter : (b : ℕ) → class_of b ≡ Lower → is_letter b ≡ true
lower_is_letter b e = ap (λ t. t || is_in Upper b) (is_in_its Lower b e)

pub upper_is_letter : (b : ℕ) → class_of b ≡ Upper → is_letter b ≡ true
upper_is_letter b e = rw (is_in_its Upper b e) (or_true (is_in Lower b))
  where
    or_true : (x : Bool) → (x || true) ≡ true
    or_true true = refl
    or_true false = refl

-- a letter is of one of two classes
pub letter_class : (P : ℕ → Type 0) (b : ℕ) → is_letter b ≡ true → (class_of b ≡ Lower → P b) → (class_of b ≡ Upper → P b) → P b
letter_class P b e f g = go (is_in Lower b) refl
  where
    go : (t : Bool) → is_in Lower b ≡ t → P b
    go true h = f (its_class Lower b h)
    go false h = g (its_class Upper b (ap (λ (t : Bool). t || is_in Upper b) (sym h) ∙ e))
