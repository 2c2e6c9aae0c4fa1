-- The equations of signals. A signal is the number of its node, and a node's inputs have smaller numbers.
use Rattle.std.specs.Prelude.{ℕ, Option, Some, None, List, [], ◌∷◌}
use Rattle.elm_meaning.specs.Values.{Value, Signal}

pub data Equation : Type 0 where
  Input : (place : ℕ) → Equation
  Constant : (value : Value) → Equation
  Map : (function : Value) (inputs : List ℕ) → Equation
  Foldp : (function start : Value) (input : ℕ) → Equation
  Merge : (left right : ℕ) → Equation
  Filter : (test first : Value) (input : ℕ) → Equation
  FilterMap : (function first : Value) (input : ℕ) → Equation
  DropRepeats : (input : ℕ) → Equation
  SampleOn : (ticks input : ℕ) → Equation
  Async : (input : ℕ) → Equation

abbrev pub with_node : ℕ → Option (List ℕ) → Option (List ℕ)
with_node n None = None
with_node n (Some ns) = Some (n ∷ ns)

-- the nodes of signals
abbrev pub nodes_of : List Value → Option (List ℕ)
nodes_of [] = Some []
nodes_of (Signal n ∷ vs) = with_node n (nodes_of vs)
nodes_of _ = None

abbrev pub map_node : Value → Option (List ℕ) → Option Equation
map_node f None = None
map_node f (Some ns) = Some (Equation.Map f ns)

-- the equation that each native of signals makes of its arguments

abbrev pub constant : List Value → Option Equation
constant (v ∷ []) = Some (Equation.Constant v)
constant _ = None

-- of one to five signals
abbrev pub map : List Value → Option Equation
map (f ∷ vs) = map_node f (nodes_of vs)
map [] = None

abbrev pub foldp : List Value → Option Equation
foldp (f ∷ v ∷ Signal n ∷ []) = Some (Equation.Foldp f v n)
foldp _ = None

abbrev pub merge : List Value → Option Equation
merge (Signal m ∷ Signal n ∷ []) = Some (Equation.Merge m n)
merge _ = None

abbrev pub filter : List Value → Option Equation
filter (p ∷ v ∷ Signal n ∷ []) = Some (Equation.Filter p v n)
filter _ = None

abbrev pub filter_map : List Value → Option Equation
filter_map (f ∷ v ∷ Signal n ∷ []) = Some (Equation.FilterMap f v n)
filter_map _ = None

abbrev pub drop_repeats : List Value → Option Equation
drop_repeats (Signal n ∷ []) = Some (Equation.DropRepeats n)
drop_repeats _ = None

abbrev pub sample_on : List Value → Option Equation
sample_on (Signal m ∷ Signal n ∷ []) = Some (Equation.SampleOn m n)
sample_on _ = None

abbrev pub async : List Value → Option Equation
async (Signal n ∷ []) = Some (Equation.Async n)
async _ = None
