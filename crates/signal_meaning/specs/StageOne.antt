-- Stage one: the top values are evaluated in their order, each with the same fuel, and add the equations of signals.
use Rattle.std.specs.Prelude.{ℕ, Option, Some, None, List, [], ◌∷◌, ◌++◌}
use Rattle.elm_base.specs.declared.term.Note.{Note}
use Rattle.elm_base.specs.declared.term.RunFault.{RunFault}
use Rattle.elm_meaning.specs.Values.{Value, Tree}
use Rattle.elm_meaning.specs.Equations.{Equation}
use Rattle.elm_meaning.specs.Progress.{Stage, State, Ending, Returns, Stops}
use Rattle.elm_meaning.specs.Evaluation.{eval}

-- What a run starts with: the program's top values as closed terms in the order of groups, the first values of its inputs,
-- and the fuel of each top value and of each call of a node.
pub record Start : Type 0 where
  pub tops : List Tree
  pub inputs : List Value
  pub fuel : ℕ

-- why a run stops; a program that is well typed never lacks a rule
pub data Cause : Type 0 where
  Fault : (fault : RunFault) → Cause
  NoRule : Cause

-- the top values evaluated so far, the equations and notes so far, and the first fault, which ends them
pub record Begun : Type 0 where
  pub values : List Value
  pub equations : List Equation
  pub notes : List Note
  pub stop : Option Cause

abbrev pub nothing_begun : Begun
nothing_begun = record { values = []; equations = []; notes = []; stop = None }

abbrev pub equations_of : Stage → List Equation
equations_of None = []
equations_of (Some equations) = equations

-- with one more top value
abbrev pub with_value : Value → State → Begun → Begun
with_value v s b = record { values = b.values ++ v ∷ []; equations = equations_of s.stage; notes = b.notes ++ s.notes; stop = None }

-- stopped at the next top value
abbrev pub stopped_in : Cause → State → Begun → Begun
stopped_in cause s b = record { values = b.values; equations = equations_of s.stage; notes = b.notes ++ s.notes; stop = Some cause }

abbrev pub then_begin : Ending → Begun → (Begun → Begun) → Begun
then_begin (Returns v s) b go = go (with_value v s b)
then_begin (Stops x s) b go = stopped_in (Cause.Fault x) s b
then_begin (Ending.NoRule s) b go = stopped_in Cause.NoRule s b

-- each goes on from the values and equations of those before it
abbrev pub begin_all : ℕ → List Tree → Begun → Begun
begin_all fuel [] b = b
begin_all fuel (e ∷ es) b = then_begin (eval b.values (Some b.equations) e fuel) b (λ next. begin_all fuel es next)

abbrev pub stage_one_of : Start → Begun
stage_one_of start = begin_all start.fuel start.tops nothing_begun

-- what stage two runs: the equations with the top values, the first values of the inputs and the fuel of each call
pub record Network : Type 0 where
  pub equations : List Equation
  pub tops : List Value
  pub inputs : List Value
  pub fuel : ℕ

abbrev pub network : Start → Network
network start =
    record { equations = (stage_one_of start).equations; tops = (stage_one_of start).values; inputs = start.inputs; fuel = start.fuel }
