-- What the names that are used stand for, as the steps of a module are gone through.
use Rattle.std.specs.Prelude.{ℕ, ◌-◌, List, [], ◌∷◌, ◌++◌, length, take, map, fold, slice_index}
use Rattle.elm_base.specs.declared.tree.Spot.{Spot}
use Rattle.name_steps.specs.declared.step.Step.{Step}
use Rattle.name_steps.specs.declared.step.Step.TheVariants as step
use Rattle.module_names.specs.declared.walk.Use.{Use}
use Rattle.module_names.specs.Lookup.{Places, answer_of}

-- what is bound, how much was bound when each open scope opened, and the uses so far
pub record State : Type 0 where
  pub locals : List Spot
  pub opened : List ℕ
  pub uses : List Use

abbrev pub start : State
start = record { locals = []; opened = []; uses = [] }

abbrev pub opens : State → State
opens state = record { locals = state.locals; opened = state.opened ++ length state.locals ∷ []; uses = state.uses }

-- what was bound since the scope opened is gone
abbrev pub closes : State → State
closes state = record {
  locals = take (slice_index state.opened (length state.opened - 1)) state.locals;
  opened = take (length state.opened - 1) state.opened;
  uses = state.uses;
}

abbrev pub binds : List Spot → State → State
binds spots state = record { locals = state.locals ++ spots; opened = state.opened; uses = state.uses }

-- a use of a name where these are bound
abbrev pub use_of : Places → List Spot → Spot → Use
use_of places locals spot = record { spot = spot; answer = answer_of places locals spot.name }

abbrev pub adds : Places → List Spot → State → State
adds places spots state =
    record { locals = state.locals; opened = state.opened; uses = state.uses ++ map (use_of places state.locals) spots }

abbrev pub goes : Places → State → Step → State
goes places state step.Opens = opens state
goes places state step.Closes = closes state
goes places state (step.Binds spots) = binds spots state
goes places state (step.Uses spots) = adds places spots state
goes places state (step.Labels spots) = state
goes places state (step.Block at definitions end) = state

abbrev pub walked : Places → State → List Step → State
walked places state steps = fold (goes places) state steps

-- the uses in a row of steps, in order
abbrev pub uses_in : Places → List Step → List Use
uses_in places steps = (walked places start steps).uses
