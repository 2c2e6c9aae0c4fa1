-- The least of lines, line by line.
use Rattle.std.proofs.Common.{◌≡◌, ℕ, min, List, [], ◌∷◌, ◌++◌, Option, Some, None, refl, sym, ◌∙◌, ap, arith}
use Rattle.block_sizes.specs.BlockSizes.{earlier, earliest}

earlier_none : (a : Option ℕ) → earlier a None ≡ a
earlier_none None = refl
earlier_none (Some a) = refl

least : (a b c : ℕ) → min a (min b c) ≡ min (min a b) c
least a b c = omega arith

earlier_all : (a b c : Option ℕ) → earlier a (earlier b c) ≡ earlier (earlier a b) c
earlier_all None b c = refl
earlier_all (Some a) None c = refl
earlier_all (Some a) (Some b) None = refl
earlier_all (Some a) (Some b) (Some c) = ap (λ z. Some z) (least a b c)

pub earliest_append : (xs : List (Option ℕ)) (y : Option ℕ) → earliest (xs ++ y ∷ []) ≡ earlier (earliest xs) y
earliest_append [] y = earlier_none y
earliest_append (x ∷ xs) y = ap (earlier x) (earliest_append xs y) ∙ earlier_all x (earliest xs) y
