-- The first fault in the texts of a project's types.
use Rattle.std.specs.Prelude.{◌≡◌, ℕ, IsTrue, ◌↔◌, List, []}
use Rattle.elm_base.specs.declared.fault.ProjectFault.{ProjectFault}
use Rattle.elm_base.specs.declared.tree.Module.{Module}
use Rattle.module_names.specs.declared.flaws.Flaw.{Flaw}
use Rattle.module_groups.specs.Groups.{Reaches}
use Rattle.module_scope.specs.Faults.{Each, IsFirstOfAll}
use Rattle.module_scope.specs.Firsts.{IsFirst}
use Rattle.type_names.specs.declared.known.KnownType.{KnownType}
use Rattle.type_names.specs.Known.{known_in}
use Rattle.alias_cycles.specs.declared.texts.AliasText.{AliasText}
use Rattle.alias_cycles.specs.Naming.{aliases_in}
use Rattle.alias_cycles.specs.Cycles.{refers}
use Rattle.type_faults.specs.Flaws.{Leads, faults_in}

-- exactly where a chain of aliases, each named in the text of the one before, goes from one to the other
abbrev pub SaysWhatLeads : List AliasText → Leads → Type 0
SaysWhatLeads aliases leads = (a b : ℕ) → IsTrue (leads a b) ↔ Reaches (refers aliases) a b

abbrev pub aliases_of : List Module → List AliasText
aliases_of modules = aliases_in (known_in modules) modules

abbrev pub faults_by : List Module → Leads → Module → List Flaw
faults_by modules leads «module» = faults_in (known_in modules) (aliases_of modules) leads «module»

abbrev pub IsClear : List Module → Leads → Module → Type 0
IsClear modules leads «module» = faults_by modules leads «module» ≡ []

abbrev pub IsFirstIn : List Module → Leads → Module → Flaw → Type 0
IsFirstIn modules leads «module» flaw = IsFirst (faults_by modules leads «module») flaw

-- The first fault, by line and column, of the first module that has one.
pub record IsTextFault (modules : List Module) (fault : ProjectFault) : Type 0 where
  pub leads : Leads
  pub says : SaysWhatLeads (aliases_of modules) leads
  pub first : IsFirstOfAll (IsClear modules leads) (IsFirstIn modules leads) modules fault

pub record HasNoTextFault (modules : List Module) : Type 0 where
  pub leads : Leads
  pub says : SaysWhatLeads (aliases_of modules) leads
  pub clear : Each (IsClear modules leads) modules
