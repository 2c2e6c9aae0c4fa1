-- The tree of a chain of operands with operators between them.
use Rattle.std.specs.Prelude.{◌≡◌, ℕ, List, [], ◌∷◌, ◌++◌, length}
use Rattle.operator_trees.specs.declared.binding.Binding.{Binding}
use Rattle.operator_trees.specs.Binds.{Each, MayStandLeft, MayStandRight}

-- an operand, or an operator with its two sides
pub data OperatorTree (O E : Type 0) : Type 0 where
  Operand : (operand : E) → OperatorTree O E
  Applied : (operator : O) (left right : OperatorTree O E) → OperatorTree O E

module _ {O E : Type 0} where
  -- the operands from left to right
  abbrev pub operands : OperatorTree O E → List E
  operands (Operand e) = e ∷ []
  operands (Applied o l r) = operands l ++ operands r

  -- the operators from left to right
  abbrev pub operators : OperatorTree O E → List O
  operators (Operand e) = []
  operators (Applied o l r) = operators l ++ o ∷ operators r

  -- what an operand is, or an operator makes of what its sides are
  abbrev pub made_by : {A : Type 0} → (E → A) → (O → A → A → A) → OperatorTree O E → A
  made_by operand applied (Operand e) = operand e
  made_by operand applied (Applied o l r) = applied o (made_by operand applied l) (made_by operand applied r)

module _ {O E : Type 0} (binding : O → Binding) where
  -- a side whose own operator, if it has one, may stand there
  abbrev pub IsSide : (Binding → Binding → Type 0) → O → OperatorTree O E → Type 0
  IsSide MayStand o (Operand e) = Unit {0}
  IsSide MayStand o (Applied p l r) = MayStand (binding o) (binding p)

  -- each node's two sides respect levels and sides
  abbrev pub Respects : OperatorTree O E → Type 0
  Respects (Operand e) = Unit {0}
  Respects (Applied o l r) = IsSide MayStandLeft o l × IsSide MayStandRight o r × Respects l × Respects r

  -- the tree's leaves are the operands in order, with the operators between them, and it respects levels and sides
  pub record IsTreeOf (es : List E) (os : List O) (tree : OperatorTree O E) : Type 0 where
    pub leaves : operands tree ≡ es
    pub between : operators tree ≡ os
    pub respects : Respects tree

  -- no tree is one of this chain
  abbrev pub HasNoTree : List E → List O → Type 0
  HasNoTree es os = (tree : OperatorTree O E) → IsTreeOf es os tree → ⊥

module _ {O : Type 0} (binding : O → Binding) where
  -- The root has so many operators from it on: those before it may stand in its left side, those behind it in its right side.
  abbrev pub IsRoot : List O → ℕ → Type 0
  IsRoot os left = (before : List O) × (root : O) × (after : List O)
      × (os ≡ before ++ root ∷ after) × (length (root ∷ after) ≡ left)
      × Each (λ p. MayStandLeft (binding root) (binding p)) before
      × Each (λ p. MayStandRight (binding root) (binding p)) after
