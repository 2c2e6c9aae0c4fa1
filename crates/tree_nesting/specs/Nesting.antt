-- How deep a tree nests. A tree without parts has nesting 0, and any other one more than the most of its parts.
use Rattle.std.specs.Prelude.{ℕ, suc, max, List, [], ◌∷◌, map}
use Rattle.elm_base.specs.declared.tree.Pattern.{Pattern}
use Rattle.elm_base.specs.declared.tree.Pattern.TheOpen as pattern
use Rattle.elm_base.specs.declared.tree.Pattern.TheFolds.{fold-Pattern}
use Rattle.elm_base.specs.declared.tree.TypeTree.{TypeTree}
use Rattle.elm_base.specs.declared.tree.TypeTree.TheOpen as type
use Rattle.elm_base.specs.declared.tree.TypeTree.TheFolds.{fold-TypeTree}

-- a tree that is read nests at most so deep
abbrev pub max_nesting : ℕ
max_nesting = 100

-- the greatest of the numbers
abbrev pub most : List ℕ → ℕ
most [] = 0
most (n ∷ ns) = max n (most ns)

-- round parts of these nestings
abbrev pub around : List ℕ → ℕ
around [] = 0
around (n ∷ ns) = suc (most (n ∷ ns))

-- of a type, from the nestings of its parts
abbrev pub type_step : type.TypeTree-F ℕ → ℕ
type_step (type.Variable at name) = 0
type_step (type.Named at name arguments) = around arguments
type_step (type.Arrow at from to) = around (from ∷ to ∷ [])
type_step (type.Unit at) = 0
type_step (type.Tuple at parts) = around parts
type_step (type.Brackets at inner) = around (inner ∷ [])
type_step (type.Fields at before fields) = around (map (λ field. field.1) fields)

abbrev pub type_nesting : TypeTree → ℕ
type_nesting = fold-TypeTree ℕ type_step

-- Of a pattern, from the nestings of its parts. The labels of a record are no parts.
abbrev pub pattern_step : pattern.Pattern-F ℕ → ℕ
pattern_step (pattern.Anything at) = 0
pattern_step (pattern.Variable at name) = 0
pattern_step (pattern.Int at value) = 0
pattern_step (pattern.Char at value) = 0
pattern_step (pattern.Text at value) = 0
pattern_step (pattern.Unit at) = 0
pattern_step (pattern.Made at constructor parts) = around parts
pattern_step (pattern.Cons at head tail) = around (head ∷ tail ∷ [])
pattern_step (pattern.List at parts) = around parts
pattern_step (pattern.Tuple at parts) = around parts
pattern_step (pattern.Fields at labels) = 0
pattern_step (pattern.Brackets at inner) = around (inner ∷ [])
pattern_step (pattern.Named at inner name) = around (inner ∷ [])

abbrev pub pattern_nesting : Pattern → ℕ
pattern_nesting = fold-Pattern ℕ pattern_step
