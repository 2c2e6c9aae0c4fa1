-- How operators stand to each other: their levels, and the sides to which they group.
use Rattle.std.specs.Prelude.{◌≡◌, ◌≢◌, ℕ, ◌<◌, ◌⊎◌, List, [], ◌∷◌}
use Rattle.elm_base.specs.declared.tree.Side.{Side}
use Rattle.elm_base.specs.declared.tree.Side.TheVariants as side
use Rattle.operator_trees.specs.declared.binding.Binding.{Binding}

-- an equal level, and this side for both
abbrev pub GroupTo : Side → Binding → Binding → Type 0
GroupTo to a b = (a.level ≡ b.level) × (a.side ≡ to) × (b.side ≡ to)

-- the second operator may stand in the left side of the first
abbrev pub MayStandLeft : Binding → Binding → Type 0
MayStandLeft a b = (a.level < b.level) ⊎ GroupTo side.Left a b

-- the second operator may stand in the right side of the first
abbrev pub MayStandRight : Binding → Binding → Type 0
MayStandRight a b = (a.level < b.level) ⊎ GroupTo side.Right a b

-- two operators of one level that differ in side, or group to none
abbrev pub Disagree : Binding → Binding → Type 0
Disagree a b = (a.level ≡ b.level) × ((a.side ≢ b.side) ⊎ (a.side ≡ side.Neither))

-- each of the list is so
abbrev pub Each : {X : Type 0} → (X → Type 0) → List X → Type 0
Each P [] = Unit {0}
Each P (x ∷ xs) = P x × Each P xs

module _ {O : Type 0} (binding : O → Binding) where
  -- the first operator disagrees with one of the others, with only higher levels between them
  abbrev pub MeetsClash : O → List O → Type 0
  MeetsClash a [] = ⊥
  MeetsClash a (b ∷ bs) = Disagree (binding a) (binding b) ⊎ (((binding a).level < (binding b).level) × MeetsClash a bs)

  -- two of the operators disagree, with only higher levels between them
  abbrev pub HasClash : List O → Type 0
  HasClash [] = ⊥
  HasClash (b ∷ bs) = MeetsClash b bs ⊎ HasClash bs
