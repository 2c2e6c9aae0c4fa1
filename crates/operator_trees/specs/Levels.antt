-- The levels and sides of operators, by their spellings.
use Rattle.std.specs.Prelude.{ℕ, nat_eq, List, [], ◌∷◌, ◌++◌, codes, Option, Some, None, if◌then◌else◌}
use lib.Pointwise.{pointwise}
use Rattle.elm_base.specs.declared.tree.Side.{Side}
use Rattle.elm_base.specs.declared.tree.Side.TheVariants.{Left, Right, Neither}
use Rattle.operator_trees.specs.declared.binding.Binding.{Binding}

-- operators with what is declared of them
abbrev pub Declared : Type 0
Declared = List (List ℕ × Binding)

abbrev pub at_level : ℕ → Side → Binding
at_level n side = record { level = n; side = side }

-- what the language declares before every module
abbrev pub standard : Declared
standard =
    (codes "<<", at_level 9 Right) ∷ (codes ">>", at_level 9 Left)
    ∷ (codes "*", at_level 7 Left) ∷ (codes "//", at_level 7 Left) ∷ (codes "%", at_level 7 Left)
    ∷ (codes "+", at_level 6 Left) ∷ (codes "-", at_level 6 Left)
    ∷ (codes "++", at_level 5 Right) ∷ (codes "::", at_level 5 Right)
    ∷ (codes "==", at_level 4 Neither) ∷ (codes "/=", at_level 4 Neither)
    ∷ (codes "<", at_level 4 Neither) ∷ (codes ">", at_level 4 Neither)
    ∷ (codes "<=", at_level 4 Neither) ∷ (codes ">=", at_level 4 Neither)
    ∷ (codes "<~", at_level 4 Left) ∷ (codes "~", at_level 4 Left)
    ∷ (codes "&&", at_level 3 Right) ∷ (codes "||", at_level 2 Right)
    ∷ (codes "|>", at_level 0 Left) ∷ (codes "<|", at_level 0 Right) ∷ []

-- an operator of which nothing is declared, and a name in backticks
abbrev pub undeclared : Binding
undeclared = at_level 9 Left

-- what the first entry of this spelling says
abbrev pub found : Declared → List ℕ → Option Binding
found [] name = None
found (d ∷ ds) name = if pointwise nat_eq name d.0 then Some d.1 else found ds name

abbrev pub or_else : Option Binding → Binding → Binding
or_else None other = other
or_else (Some known) other = known

-- the level and side of an operator in a project that declares these besides
abbrev pub binding_of : Declared → List ℕ → Binding
binding_of declared name = or_else (found standard name) (or_else (found declared name) undeclared)
