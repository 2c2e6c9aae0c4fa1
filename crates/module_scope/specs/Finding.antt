-- For private contracts: what is found of the modules of a project, one after the other.
use Rattle.std.specs.Prelude.{◌≡◌, ℕ, List, [], ◌∷◌, ◌++◌, Option, Some, None, Result, Ok, Err}
use Rattle.std.specs.List.{flat_map}
use Rattle.elm_base.specs.declared.fault.ProjectFault.{ProjectFault}
use Rattle.elm_base.specs.declared.memory.Halt.{Halt}
use Rattle.elm_base.specs.declared.memory.Halt.TheVariants as halt
use Rattle.elm_base.specs.declared.tree.Module.{Module}
use Rattle.module_names.specs.declared.face.Face.{Face}
use Rattle.module_names.specs.declared.flaws.Flaw.{Flaw}
use Rattle.module_names.specs.Named.{flaws_of}
use Rattle.block_groups.specs.Turns.{InTurn, Appends}
use Rattle.module_scope.specs.declared.found.Found.{Found}
use Rattle.module_scope.specs.Faults.{fault_of, Each, IsNameFault, IsCycleFault}
use Rattle.module_scope.specs.Firsts.{IsFirst, least}
use Rattle.module_scope.specs.Modules.{faces_of, meanings_of, AreGroupsIn, IsNamed, HasNoCycle, IsFirstCycle}

-- ---- faults of one module

abbrev pub first_in : List ℕ → List Flaw → Option ProjectFault
first_in «module» [] = None
first_in «module» (first ∷ more) = Some (fault_of «module» (least first more))

-- the first of a module's faults of names
abbrev pub IsNameFaultIn : List Face → Module → ProjectFault → Type 0
IsNameFaultIn faces «module» fault = (flaw : Flaw) × IsFirst (flaws_of faces «module») flaw × (fault ≡ fault_of «module».name flaw)

-- the first of its values in cycles, or that there is none
abbrev pub CycleIn : List Face → Module → Option ProjectFault → Type 0
CycleIn faces «module» None = HasNoCycle faces «module»
CycleIn faces «module» (Some fault) = (flaw : Flaw) × IsFirstCycle faces «module» flaw × (fault ≡ fault_of «module».name flaw)

-- a cycle that was found stays
abbrev pub CycleNoted : List Face → Module → Option ProjectFault → Option ProjectFault → Type 0
CycleNoted faces «module» None now = CycleIn faces «module» now
CycleNoted faces «module» (Some fault) now = now ≡ Some fault

abbrev pub noted : List ℕ → List Flaw → Option ProjectFault → Option ProjectFault
noted «module» cycles None = first_in «module» cycles
noted «module» cycles (Some fault) = Some fault

-- ---- one module more

pub record IsAdded (faces : List Face) («module» : Module) (old new : Found) : Type 0 where
  pub named : IsNamed faces «module»
  pub meanings : new.meanings ≡ old.meanings ++ meanings_of faces «module»
  pub groups : Appends (AreGroupsIn faces «module») old.groups new.groups
  pub cycle : CycleNoted faces «module» old.cycle new.cycle

abbrev pub Added : List Face → Module → Found → Found → Result Unit (Halt ProjectFault) → Type 0
Added faces «module» old new (Ok done) = IsAdded faces «module» old new
Added faces «module» old new (Err (halt.Because fault)) = IsNameFaultIn faces «module» fault
Added faces «module» old new (Err halt.NoMemory) = Unit {0}

-- ---- all modules

-- the first value in a cycle of these modules, or that there is none
abbrev pub CycleOf : List Face → List Module → Option ProjectFault → Type 0
CycleOf faces modules None = Each (HasNoCycle faces) modules
CycleOf faces modules (Some fault) = IsCycleFault faces modules fault

pub record IsFound (faces : List Face) (modules : List Module) (found : Found) : Type 0 where
  pub named : Each (IsNamed faces) modules
  pub meanings : found.meanings ≡ flat_map (meanings_of faces) modules
  pub groups : InTurn (AreGroupsIn faces) modules found.groups
  pub cycle : CycleOf faces modules found.cycle

abbrev pub FindsAll : List Module → Result Found (Halt ProjectFault) → Type 0
FindsAll modules (Ok found) = IsFound (faces_of modules) modules found
FindsAll modules (Err (halt.Because fault)) = IsNameFault (faces_of modules) modules fault
FindsAll modules (Err halt.NoMemory) = Unit {0}
