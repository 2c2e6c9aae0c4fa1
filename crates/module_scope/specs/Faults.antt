-- The first fault of a project's names and values in cycles.
use Rattle.std.specs.Prelude.{◌≡◌, ℕ, ◌⊎◌, List, ◌∷◌, ◌++◌}
use Rattle.std.specs.List.{Contains}
use Rattle.elm_base.specs.declared.fault.ProjectFault.{ProjectFault}
use Rattle.elm_base.specs.declared.tree.Module.{Module}
use Rattle.module_names.specs.declared.face.Face.{Face}
use Rattle.module_names.specs.declared.flaws.Flaw.{Flaw}
use Rattle.module_names.specs.Named.{flaws_of}
use Rattle.module_scope.specs.Firsts.{IsFirst}
use Rattle.module_scope.specs.Modules.{faces_of, IsNamed, HasNoCycle, IsFirstCycle}

-- a fault in a module as one of its project
abbrev pub fault_of : List ℕ → Flaw → ProjectFault
fault_of «module» flaw = record { «module» = «module»; line = flaw.at.line; kind = flaw.kind; name = flaw.name }

-- of all modules
abbrev pub Each : (Module → Type 0) → List Module → Type 0
Each holds modules = («module» : Module) → Contains modules «module» → holds «module»

-- The first fault of the first module that has one: `clear` says that a module has none, `first` which is its first.
pub record IsFirstOfAll (clear : Module → Type 0) (first : Module → Flaw → Type 0) (modules : List Module) (fault : ProjectFault) : Type 0 where
  pub before : List Module
  pub «module» : Module
  pub after : List Module
  pub ordered : modules ≡ before ++ «module» ∷ after
  pub none : Each clear before
  pub flaw : Flaw
  pub one : first «module» flaw
  pub is : fault ≡ fault_of «module».name flaw

-- the first fault of a name
abbrev pub IsNameFault : List Face → List Module → ProjectFault → Type 0
IsNameFault faces modules fault = IsFirstOfAll (IsNamed faces) (λ «module» flaw. IsFirst (flaws_of faces «module») flaw) modules fault

-- the first value in a cycle
abbrev pub IsCycleFault : List Face → List Module → ProjectFault → Type 0
IsCycleFault faces modules fault = IsFirstOfAll (HasNoCycle faces) (IsFirstCycle faces) modules fault

-- All names come before all values in cycles.
abbrev pub IsFault : List Module → ProjectFault → Type 0
IsFault modules fault =
    IsNameFault (faces_of modules) modules fault ⊎ (Each (IsNamed (faces_of modules)) modules × IsCycleFault (faces_of modules) modules fault)
