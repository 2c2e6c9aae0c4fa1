-- What it is for a native to be safe: given values of its argument types it gives a value of its result type, or a fault.
use Rattle.std.specs.Prelude.{◌≡◌, ℕ, Option, Some, None, List, ◌++◌}
use Rattle.elm_typing.specs.Ground.{Ground}
use Rattle.elm_typing.specs.Names.{signal_of}
use Rattle.elm_meaning.specs.Values.{Values}
use Rattle.elm_meaning.specs.Answers.{Answer, Gives, Faults}
use Rattle.elm_meaning.specs.Equations.{Equation}
use Rattle.elm_meaning.specs.Evaluation.{number_of, list_of}
use Rattle.elm_meaning.specs.NativeTable.{Native, IsValue, Replies, MakesNode}
use Rattle.typing_rules.specs.WrittenTypes.{Written, Choice, Respects, instance_at}
use Rattle.typing_rules.specs.Unions.{Union}
use Rattle.typing_rules.specs.Library.{library_unions}
use Rattle.typing_rules.specs.Worlds.{World}
use Rattle.typing_rules.specs.TermTypes.{ValueHas, AreTaken}
use Rattle.typing_rules.specs.Nodes.{call_of}

-- the unions of the library come first
pub record HasLibrary (w : World) : Type 0 where
  pub own : List Union
  pub first : w.unions ≡ library_unions ++ own

-- a value of the type, or a fault
abbrev pub GivesTyped : World → Ground → Answer → Type 0
GivesTyped w type (Gives v) = ValueHas w v type
GivesTyped w type (Faults fault) = Unit {0}
GivesTyped w type Answer.NoRule = ⊥

-- an equation that stands for this very call, whose type is a signal
abbrev pub MakesTyped : ℕ → Ground → Values → Option Equation → Type 0
MakesTyped number type vs None = ⊥
MakesTyped number type vs (Some q) = (call_of q ≡ Some (number, vs)) × (value : Ground) × (type ≡ signal_of value)

-- the native with a number, at an instance of its written type
abbrev pub IsSafeNative : World → ℕ → Native → Written → Type 0
IsSafeNative w number (IsValue v) written = (choice : Choice) → Respects choice written → ValueHas w v (instance_at choice written)
IsSafeNative w number (Replies takes reply) written =
    (choice : Choice) (type : Ground) (vs : Values) → Respects choice written → AreTaken w vs (instance_at choice written) type →
    number_of vs ≡ takes → GivesTyped w type (reply (list_of vs)).answer
IsSafeNative w number (MakesNode takes equation) written =
    (choice : Choice) (type : Ground) (vs : Values) → Respects choice written → AreTaken w vs (instance_at choice written) type →
    number_of vs ≡ takes → MakesTyped number type vs (equation (list_of vs))
