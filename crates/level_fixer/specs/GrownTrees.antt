-- The tree of a chain as a function: it grows at its right edge, an operator and an operand at a time.
use Rattle.std.specs.Prelude.{List, [], ◌∷◌}
use Rattle.operator_trees.specs.declared.binding.Binding.{Binding}
use Rattle.operator_trees.specs.declared.binding.Below.{Below}
use Rattle.operator_trees.specs.declared.binding.Below.TheVariants as below
use Rattle.operator_trees.specs.Roots.{which_below}
use Rattle.operator_trees.specs.Trees.{OperatorTree, Operand, Applied}

-- what stands where the second operator stands below the first, and else
abbrev pub where_below : {A : Type 0} → Below → A → A → A
where_below below.Second inside above = inside
where_below _ inside above = above

module _ {O E : Type 0} (binding : O → Binding) where
  -- with an operator and an operand behind it: below each operator of the right edge, as long as the levels and sides say so
  abbrev pub put_behind : OperatorTree O E → O → E → OperatorTree O E
  put_behind (Operand a) o e = Applied o (Operand a) (Operand e)
  put_behind (Applied p l r) o e =
      where_below (which_below (binding p) (binding o)) (Applied p l (put_behind r o e)) (Applied o (Applied p l r) (Operand e))

  -- with these operators, each with an operand behind it
  abbrev pub grown : OperatorTree O E → List O → List E → OperatorTree O E
  grown t [] es = t
  grown t (o ∷ os) [] = t
  grown t (o ∷ os) (e ∷ es) = grown (put_behind t o e) os es
