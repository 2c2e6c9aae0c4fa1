-- The names in a pattern: those that it binds, and the constructors that it names.
use Rattle.std.specs.Prelude.{ℕ, List, [], ◌∷◌, ◌++◌}
use Rattle.std.specs.List.{flat_map}
use Rattle.elm_base.specs.declared.token.At.{At}
use Rattle.elm_base.specs.declared.tree.Spot.{Spot}
use Rattle.elm_base.specs.declared.tree.Pattern.{Pattern}
use Rattle.elm_base.specs.declared.tree.Pattern.TheOpen as pattern
use Rattle.elm_base.specs.declared.tree.Pattern.TheFolds.{fold-Pattern}

-- a name at its place
abbrev pub spot_of : At → List ℕ → Spot
spot_of at name = record { at = at; name = name }

-- one list behind the other
abbrev pub joined : List (List Spot) → List Spot
joined lists = flat_map (λ spots. spots) lists

-- its variables, from left to right; of a record pattern the labels
abbrev pub binds_step : pattern.Pattern-F (List Spot) → List Spot
binds_step (pattern.Variable at name) = spot_of at name ∷ []
binds_step (pattern.Made at constructor parts) = joined parts
binds_step (pattern.Cons at head tail) = head ++ tail
binds_step (pattern.List at parts) = joined parts
binds_step (pattern.Tuple at parts) = joined parts
binds_step (pattern.Fields at labels) = labels
binds_step (pattern.Brackets at inner) = inner
binds_step (pattern.Named at inner name) = inner ++ name ∷ []
binds_step _ = []

abbrev pub binds_of : Pattern → List Spot
binds_of = fold-Pattern (List Spot) binds_step

-- its constructors, from left to right; `::` and lists are built in
abbrev pub constructors_step : pattern.Pattern-F (List Spot) → List Spot
constructors_step (pattern.Made at constructor parts) = spot_of at constructor ∷ joined parts
constructors_step (pattern.Cons at head tail) = head ++ tail
constructors_step (pattern.List at parts) = joined parts
constructors_step (pattern.Tuple at parts) = joined parts
constructors_step (pattern.Brackets at inner) = inner
constructors_step (pattern.Named at inner name) = inner
constructors_step _ = []

abbrev pub constructors_of : Pattern → List Spot
constructors_of = fold-Pattern (List Spot) constructors_step
