-- The last of a list, by its place.
use Rattle.std.proofs.Common.{◌≡◌, suc, ◌-◌, ◌≤◌, Bool, List, [], ◌∷◌, length, get_or, map, refl, sym, ◌∙◌, ap, arith}
use Rattle.expr_grammar.specs.Expressions.{last_of}

pub last_at : {A : Type 0} (f : A → Bool) (xs : List A) (d : A) → 1 ≤ length xs → last_of (map f xs) ≡ f (get_or xs (length xs - 1) d)
last_at f [] d h = absurd (omega arith)
last_at f (x ∷ []) d h = refl
last_at f (x ∷ y ∷ ys) d h =
    let place : length (x ∷ y ∷ ys) - 1 ≡ suc (length (y ∷ ys) - 1) = omega arith in
    last_at f (y ∷ ys) d (omega arith) ∙ ap (λ n. f (get_or (x ∷ y ∷ ys) n d)) (sym place)
