-- What it is for an evaluation to be safe: it gives a value of the term's type, or ends in a fault.
use Rattle.std.specs.Prelude.{◌≡◌, ℕ, Option, Some, None, List, [], ◌∷◌, ◌++◌, slice_get}
use Rattle.elm_typing.specs.Ground.{Ground}
use Rattle.elm_typing.specs.Sorts.{Simple, Signal, sort_of}
use Rattle.elm_meaning.specs.Values.{Value}
use Rattle.elm_meaning.specs.Matching.{Bindings}
use Rattle.elm_meaning.specs.Substitution.{Names}
use Rattle.elm_meaning.specs.Equations.{Equation}
use Rattle.elm_meaning.specs.Progress.{Stage, Ending, Returns, Stops, NoRule}
use Rattle.typing_rules.specs.Worlds.{Surroundings, Bound, World, with_nodes}
use Rattle.typing_rules.specs.TermTypes.{ValueHas}
use Rattle.typing_rules.specs.Nodes.{at_equations, AreWellTyped}

-- in stage one the nodes are those of the equations so far
abbrev pub at_stage : Stage → World → World
at_stage None w = w
at_stage (Some qs) w = with_nodes (at_equations qs w).nodes w

-- in stage one equations may have come behind, well typed in order if those before are; in stage two none has
abbrev pub Grows : World → Stage → Stage → Type 0
Grows w None after = after ≡ None
Grows w (Some qs) after =
    (more : List Equation) × (after ≡ Some (qs ++ more)) × (AreWellTyped qs w → AreWellTyped (qs ++ more) w)

-- The value has the type, and what has a simple type has added no node. A term has no rule only in stage two, where it has
-- a type of sort signal and so may ask for a node.
abbrev pub IsSafe : World → Stage → Ground → Ending → Type 0
IsSafe w stage type (Returns v s) =
    Grows w stage s.stage × ValueHas (at_stage s.stage w) v type × (sort_of w.sorts type ≡ Simple → s.stage ≡ stage)
IsSafe w stage type (Stops fault s) = Grows w stage s.stage
IsSafe w stage type (NoRule s) = (stage ≡ None) × (sort_of w.sorts type ≡ Signal)

-- each top value has all types of its name
pub record TopsTyped (w : World) (stage : Stage) (tops : List Value) : Type 0 where
  pub at : (n : ℕ) (t : Ground) → w.tops n t → (v : Value) × (slice_get tops n ≡ Some v) × ValueHas (at_stage stage w) v t

-- the value of a name, where it has one, has each type of the name; else the name has that type still
abbrev pub FillsAt : World → Option Value → Type 0 → Ground → Type 0
FillsAt w (Some v) left t = ValueHas w v t
FillsAt w None left t = left

-- what a pattern bound has, name by name, these types
abbrev pub BindsTyped : World → Bindings → Bound → Type 0
BindsTyped w [] [] = Unit {0}
BindsTyped w (b ∷ bs) (t ∷ ts) = (b.0 ≡ t.0) × ValueHas w b.1 t.1 × BindsTyped w bs ts
BindsTyped w _ _ = ⊥

-- values for some of the names in the first surroundings leave a term in the second
pub record Fills (w : World) (s : Surroundings) (σ : Names) (r : Surroundings) : Type 0 where
  pub at : (y : ℕ) (t : Ground) → s y t → FillsAt w (σ y) (r y t) t

-- the equations of stage one are well typed in order
abbrev pub HasWellTyped : World → Stage → Type 0
HasWellTyped w None = Unit {0}
HasWellTyped w (Some qs) = AreWellTyped qs w
