-- One more item behind what was made of the items before, and the labels of a record form.
use Rattle.std.proofs.Common.{◌≡◌, ℕ, ◌+◌, ◌<◌, ◌≤◌, List, [], ◌∷◌, ◌++◌, length, get_or, map, take, refl, sym, ◌∙◌, ap}
use Rattle.std.proofs.lemmas.List.{map_more, take_all}
use Rattle.elm_base.specs.declared.tree.Set.{Set}
use Rattle.elm_base.specs.declared.tree.Declaration.TheFolds.{fold-roll-Set}
use Rattle.elm_base.specs.declared.tree.Spot.{Spot}
use Rattle.name_steps.specs.PatternNames.{spot_of}
use Rattle.name_steps.specs.Steps.{Part, Read, Field, declaration_step, expr_step, set_step, field_of}

pub pushed : {X Y : Type 0} (f : X → Y) (xs : List X) (i : ℕ) (x : X) (before after : List Y) → i < length xs → x ≡ get_or xs i x →
    before ≡ map f (take i xs) → after ≡ before ++ f x ∷ [] → after ≡ map f (take (i + 1) xs)
pushed f xs i x before after h at so more =
    more ∙ ap (λ ys. ys ++ f x ∷ []) so ∙ ap (λ y. map f (take i xs) ++ f y ∷ []) at ∙ sym (map_more f xs i x h)

of_field : (field : Set) → (field_of field).label ≡ spot_of field.at field.label
of_field field =
    ap (λ (f : Field). f.label) (fold-roll-Set Part Read Field declaration_step expr_step set_step (record { at = field.at; label = field.label; value = field.value }))

pub labels_of : (fields : List Set) → map (λ (field : Set). spot_of field.at field.label) fields ≡ map (λ (field : Field). field.label) (map field_of fields)
labels_of [] = refl
labels_of (field ∷ fields) =
    ap (λ (label : Spot). label ∷ map (λ (other : Set). spot_of other.at other.label) fields) (sym (of_field field))
    ∙ ap (λ (labels : List Spot). (field_of field).label ∷ labels) (labels_of fields)

pub all_pushed : {X Y : Type 0} (f : X → Y) (xs : List X) (i : ℕ) (ys : List Y) → length xs ≤ i → ys ≡ map f (take i xs) → ys ≡ map f xs
all_pushed f xs i ys h so = so ∙ ap (map f) (take_all i xs h)
