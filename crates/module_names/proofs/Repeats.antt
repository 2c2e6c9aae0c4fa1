-- One name more among those that are to differ.
use Rattle.std.proofs.Common.{◌≡◌, ℕ, ◌+◌, ◌<◌, List, [], ◌∷◌, ◌++◌, length, get_or, take, refl, sym, ◌∙◌, ap, append_assoc}
use Rattle.std.proofs.lemmas.List.{take_more, append-nil}
use Rattle.elm_base.specs.declared.tree.Spot.{Spot}
use Rattle.module_names.specs.declared.flaws.Flaw.{Flaw}
use Rattle.module_names.specs.Flaws.{again, repeated}

repeated_behind : (before spots : List Spot) (spot : Spot) → repeated before (spots ++ spot ∷ []) ≡ repeated before spots ++ again (before ++ spots) spot
repeated_behind before [] spot =
    append-nil (again before spot) ∙ ap (λ (names : List Spot). again names spot) (sym (append-nil before))
repeated_behind before (first ∷ spots) spot =
    ap (λ (flaws : List Flaw). again before first ++ flaws) (repeated_behind (before ++ first ∷ []) spots spot)
    ∙ sym (append_assoc (again before first) (repeated (before ++ first ∷ []) spots) (again ((before ++ first ∷ []) ++ spots) spot))
    ∙ ap (λ (names : List Spot). (again before first ++ repeated (before ++ first ∷ []) spots) ++ again names spot) (append_assoc before (first ∷ []) spots)

pub repeated_more : (spots : List Spot) (i : ℕ) (d : Spot) → i < length spots →
    repeated [] (take (i + 1) spots) ≡ repeated [] (take i spots) ++ again (take i spots) (get_or spots i d)
repeated_more spots i d h = ap (repeated []) (take_more spots i d h) ∙ repeated_behind [] (take i spots) (get_or spots i d)

pub pushed : (out before after : List Flaw) (spots : List Spot) (i : ℕ) (spot : Spot) → i < length spots → spot ≡ get_or spots i spot →
    before ≡ out ++ repeated [] (take i spots) → after ≡ before ++ again (take i spots) spot → after ≡ out ++ repeated [] (take (i + 1) spots)
pushed out before after spots i spot h at so more =
    more ∙ ap (λ (flaws : List Flaw). flaws ++ again (take i spots) spot) so ∙ append_assoc out (repeated [] (take i spots)) (again (take i spots) spot)
    ∙ ap (λ (s : Spot). out ++ (repeated [] (take i spots) ++ again (take i spots) s)) at
    ∙ ap (λ (flaws : List Flaw). out ++ flaws) (sym (repeated_more spots i spot h))
