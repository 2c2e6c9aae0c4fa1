-- How the root of a chain is found: the operator that has all others at its sides, from left to right.
use Rattle.std.specs.Prelude.{ℕ, nat_lt, List, [], ◌∷◌, length, Option, Some, None, if◌then◌else◌}
use Rattle.elm_base.specs.declared.tree.Side.{Side}
use Rattle.elm_base.specs.declared.tree.Side.TheVariants.{Left, Right, Neither}
use Rattle.operator_trees.specs.declared.binding.Binding.{Binding}
use Rattle.operator_trees.specs.declared.binding.Below.{Below}
use Rattle.operator_trees.specs.declared.binding.Below.TheVariants as below

-- of equal levels
abbrev pub grouped : Side → Side → Below
grouped Left Left = below.First
grouped Right Right = below.Second
grouped _ _ = below.Neither

-- which of two operators, the first before the second, stands below the other
abbrev pub which_below : Binding → Binding → Below
which_below a b =
    if nat_lt a.level b.level then below.Second else (if nat_lt b.level a.level then below.First else grouped a.side b.side)

-- what is found where the second stands below the first, and where the first stands below the second
abbrev pub found_by : Below → Option ℕ → Option ℕ → Option ℕ
found_by below.Second behind here = behind
found_by below.First behind here = here
found_by below.Neither behind here = None

module _ {O : Type 0} (binding : O → Binding) where
  -- With the root so far, and the number of operators from it on: that number for the root of all, where there is one.
  abbrev pub rooted : Binding → ℕ → List O → Option ℕ
  rooted a left [] = Some left
  rooted a left (b ∷ bs) =
      found_by (which_below a (binding b)) (rooted a left bs) (rooted (binding b) (length (b ∷ bs)) bs)

  -- the number of operators from the root on
  abbrev pub root : List O → Option ℕ
  root [] = None
  root (b ∷ bs) = rooted (binding b) (length (b ∷ bs)) bs
