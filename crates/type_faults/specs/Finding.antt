-- For private contracts: the first fault as a function.
use Rattle.std.specs.Prelude.{ℕ, Option, Some, None, List, [], ◌∷◌}
use Rattle.elm_base.specs.declared.fault.ProjectFault.{ProjectFault}
use Rattle.elm_base.specs.declared.tree.Module.{Module}
use Rattle.module_names.specs.declared.flaws.Flaw.{Flaw}
use Rattle.module_scope.specs.Finding.{first_in}
use Rattle.type_names.specs.declared.known.KnownType.{KnownType}
use Rattle.alias_cycles.specs.declared.texts.AliasText.{AliasText}
use Rattle.type_faults.specs.Flaws.{Leads, faults_in}
use Rattle.type_faults.specs.Faults.{IsTextFault, HasNoTextFault}

-- the first that is there
abbrev pub or_else : Option ProjectFault → Option ProjectFault → Option ProjectFault
or_else None later = later
or_else (Some fault) later = Some fault

-- the first fault of the first module that has one, where these are the faults of each
abbrev pub first_by : (Module → List Flaw) → List Module → Option ProjectFault
first_by flaws [] = None
first_by flaws («module» ∷ more) = or_else (first_in «module».name (flaws «module»)) (first_by flaws more)

-- of one module
abbrev pub first_of_one : List KnownType → List AliasText → Leads → Module → Option ProjectFault
first_of_one types aliases leads «module» = first_in «module».name (faults_in types aliases leads «module»)

-- of several, in their order
abbrev pub first_of : List KnownType → List AliasText → Leads → List Module → Option ProjectFault
first_of types aliases leads modules = first_by (faults_in types aliases leads) modules

abbrev pub Finds : List Module → Option ProjectFault → Type 0
Finds modules None = HasNoTextFault modules
Finds modules (Some fault) = IsTextFault modules fault
