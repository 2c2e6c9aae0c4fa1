-- Networks in which each node's inputs have smaller numbers.
use Rattle.std.specs.Prelude.{◌≡◌, ℕ, ◌<◌, Some, List, [], ◌∷◌, slice_get}
use Rattle.elm_meaning.specs.Equations.{Equation}
use Rattle.signal_meaning.specs.StageOne.{Network}

-- the nodes whose values and changes a node looks at, and for an async its inner signal
abbrev pub inputs_of : Equation → List ℕ
inputs_of (Equation.Input place) = []
inputs_of (Equation.Constant v) = []
inputs_of (Equation.Map f inputs) = inputs
inputs_of (Equation.Foldp f start input) = input ∷ []
inputs_of (Equation.Merge left right) = left ∷ right ∷ []
inputs_of (Equation.Filter test first input) = input ∷ []
inputs_of (Equation.FilterMap f first input) = input ∷ []
inputs_of (Equation.DropRepeats input) = input ∷ []
inputs_of (Equation.SampleOn ticks input) = ticks ∷ input ∷ []
inputs_of (Equation.Async input) = input ∷ []

abbrev pub AllBelow : ℕ → List ℕ → Type 0
AllBelow n [] = Unit {0}
AllBelow n (i ∷ is) = (i < n) × AllBelow n is

abbrev pub IsOrdered : Network → Type 0
IsOrdered net = (k : ℕ) (q : Equation) → slice_get net.equations k ≡ Some q → AllBelow k (inputs_of q)
