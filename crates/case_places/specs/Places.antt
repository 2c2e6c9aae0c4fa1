-- The places of an expression or a declaration at which a case may be missing, from left to right: each `case` at its word
-- with its patterns, each parameter and each pattern that is defined at its pattern, as a case with one branch.
use Rattle.std.specs.Prelude.{List, [], ◌∷◌, ◌++◌, map}
use Rattle.std.specs.List.{flat_map}
use Rattle.elm_base.specs.declared.token.At.{At}
use Rattle.elm_base.specs.declared.tree.Pattern.{Pattern}
use Rattle.elm_base.specs.declared.tree.Pattern.TheOpen as pattern
use Rattle.elm_base.specs.declared.tree.Pattern.TheFolds.{fold-Pattern}
use Rattle.elm_base.specs.declared.tree.Set.{Set}
use Rattle.elm_base.specs.declared.tree.Expr.{Expr, out-Expr}
use Rattle.elm_base.specs.declared.tree.Declaration.{Declaration}
use Rattle.elm_base.specs.declared.tree.Declaration.TheOpen as tree
use Rattle.elm_base.specs.declared.tree.Declaration.TheFolds.{fold-Expr, fold-Declaration, fold-Set}
use Rattle.elm_base.specs.declared.tree.Module.{Module}
use Rattle.case_places.specs.declared.place.Place.{Place}

-- where a pattern begins
abbrev pub at_step : pattern.Pattern-F At → At
at_step (pattern.Anything at) = at
at_step (pattern.Variable at name) = at
at_step (pattern.Int at value) = at
at_step (pattern.Char at value) = at
at_step (pattern.Text at value) = at
at_step (pattern.Unit at) = at
at_step (pattern.Made at constructor parts) = at
at_step (pattern.Cons at head tail) = at
at_step (pattern.List at parts) = at
at_step (pattern.Tuple at parts) = at
at_step (pattern.Fields at labels) = at
at_step (pattern.Brackets at inner) = at
at_step (pattern.Named at inner name) = at

abbrev pub at_of : Pattern → At
at_of = fold-Pattern At at_step

abbrev pub place : At → List Pattern → Place
place at patterns = record { at = at; patterns = patterns }

abbrev pub parameter : Pattern → Place
parameter p = place (at_of p) (p ∷ [])

-- one behind the other
abbrev pub joined : List (List Place) → List Place
joined places = flat_map (λ ps. ps) places

abbrev pub expr_step : tree.Expr-F (List Place) (List Place) (List Place) → List Place
expr_step (tree.Chain at operands operators) = joined operands
expr_step (tree.Binary at operator left right) = left ++ right
expr_step (tree.Negate at inner) = inner
expr_step (tree.Call at function arguments) = function ++ joined arguments
expr_step (tree.Access at from label) = from
expr_step (tree.Brackets at inner) = inner
expr_step (tree.Tuple at parts) = joined parts
expr_step (tree.List at parts) = joined parts
expr_step (tree.Range at low high) = low ++ high
expr_step (tree.Fields at fields) = joined fields
expr_step (tree.Extend at from fields) = from ++ joined fields
expr_step (tree.Update at from fields) = from ++ joined fields
expr_step (tree.Remove at from label fields) = from ++ joined fields
expr_step (tree.Lambda at patterns body) = map parameter patterns ++ body
expr_step (tree.If at condition first second) = condition ++ first ++ second
expr_step (tree.Guards at branches) = flat_map (λ branch. branch.0 ++ branch.1) branches
expr_step (tree.Let at definitions body) = joined definitions ++ body
expr_step (tree.Case at scrutinee branches) =
    place at (map (λ branch. branch.0) branches) ∷ scrutinee ++ flat_map (λ branch. branch.1) branches
expr_step _ = []

abbrev pub declaration_step : tree.Declaration-F (List Place) (List Place) (List Place) → List Place
declaration_step (tree.Definition at name patterns body) = map parameter patterns ++ body
declaration_step (tree.PatternDefinition at pattern body) = parameter pattern ∷ body
declaration_step (tree.PortDefinition at name body) = body
declaration_step _ = []

abbrev pub places_of : Expr → List Place
places_of = fold-Expr (List Place) (List Place) (List Place) declaration_step expr_step (λ set. set.value)

abbrev pub places_of_declaration : Declaration → List Place
places_of_declaration = fold-Declaration (List Place) (List Place) (List Place) declaration_step expr_step (λ set. set.value)

abbrev pub places_of_set : Set → List Place
places_of_set = fold-Set (List Place) (List Place) (List Place) declaration_step expr_step (λ set. set.value)

-- of a whole module
abbrev pub places_of_module : Module → List Place
places_of_module m = joined (map places_of_declaration m.declarations)

-- ---- one form at a time, and nothing of another form

-- the branches of a `case`
abbrev pub chosen : List (Pattern × Expr) → List Place
chosen branches = flat_map (λ (branch : Pattern × List Place). branch.1) (map (λ branch. (branch.0, places_of branch.1)) branches)

abbrev pub branches_layer : tree.Expr-F Declaration Expr Set → List Place
branches_layer (tree.Case at scrutinee branches) = chosen branches
branches_layer _ = []

abbrev pub branches_of : Expr → List Place
branches_of x = branches_layer (out-Expr x)

-- the branches of an `if` of several
abbrev pub choices : List (Expr × Expr) → List Place
choices branches = flat_map (λ (branch : List Place × List Place). branch.0 ++ branch.1) (map (λ branch. (places_of branch.0, places_of branch.1)) branches)

abbrev pub guards_layer : tree.Expr-F Declaration Expr Set → List Place
guards_layer (tree.Guards at branches) = choices branches
guards_layer _ = []

abbrev pub guards_of : Expr → List Place
guards_of x = guards_layer (out-Expr x)

-- what a `case` asks itself
abbrev pub patterns_of : List (Pattern × Expr) → List Pattern
patterns_of branches = map (λ (branch : Pattern × List Place). branch.0) (map (λ branch. (branch.0, places_of branch.1)) branches)

abbrev pub joined_layer : tree.Expr-F Declaration Expr Set → List Place
joined_layer (tree.Binary at operator left right) = places_of left ++ places_of right
joined_layer (tree.Call at function arguments) = places_of function ++ joined (map places_of arguments)
joined_layer (tree.Range at low high) = places_of low ++ places_of high
joined_layer (tree.If at condition first second) = places_of condition ++ places_of first ++ places_of second
joined_layer (tree.Extend at from fields) = places_of from ++ joined (map places_of_set fields)
joined_layer (tree.Update at from fields) = places_of from ++ joined (map places_of_set fields)
joined_layer (tree.Remove at from label fields) = places_of from ++ joined (map places_of_set fields)
joined_layer (tree.Lambda at patterns body) = map parameter patterns ++ places_of body
joined_layer (tree.Let at definitions body) = joined (map places_of_declaration definitions) ++ places_of body
joined_layer (tree.Case at scrutinee branches) = place at (patterns_of branches) ∷ places_of scrutinee ++ chosen branches
joined_layer _ = []

abbrev pub joined_of : Expr → List Place
joined_of x = joined_layer (out-Expr x)
