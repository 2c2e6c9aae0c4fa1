-- The first fault of the types and ports that a project declares.
use Rattle.std.specs.Prelude.{◌≡◌, Option, Some, None, List, []}
use Rattle.elm_base.specs.declared.fault.ProjectFault.{ProjectFault}
use Rattle.elm_base.specs.declared.tree.Module.{Module}
use Rattle.module_names.specs.declared.flaws.Flaw.{Flaw}
use Rattle.module_scope.specs.Faults.{Each, IsFirstOfAll}
use Rattle.module_scope.specs.Firsts.{IsFirst}
use Rattle.type_names.specs.Known.{known_in}
use Rattle.alias_expansion.specs.declared.plain_alias.PlainAlias.{PlainAlias}
use Rattle.alias_expansion.specs.Table.{AreWrittenOut}
use Rattle.type_faults.specs.Flaws.{Leads}
use Rattle.type_faults.specs.Faults.{SaysWhatLeads, aliases_of}
use Rattle.decl_faults.specs.Sense.{Sense, SaysWhatMakesSense, by_table}
use Rattle.decl_faults.specs.Flaws.{faults_in}

-- By what the declarations of a project are judged: which alias leads to which, the aliases written out, and which types make
-- sense.
pub record Judge (modules : List Module) : Type 0 where
  pub leads : Leads
  pub plains : List PlainAlias
  pub sense : Sense
  pub says_leads : SaysWhatLeads (aliases_of modules) leads
  pub written_out : AreWrittenOut (known_in modules) modules plains
  pub says_sense : SaysWhatMakesSense sense

abbrev pub faults_by : (modules : List Module) → Judge modules → Module → List Flaw
faults_by modules judge «module» =
    faults_in judge.sense (known_in modules) (aliases_of modules) judge.leads (by_table judge.plains) «module»

abbrev pub IsClear : (modules : List Module) → Judge modules → Module → Type 0
IsClear modules judge «module» = faults_by modules judge «module» ≡ []

abbrev pub IsFirstIn : (modules : List Module) → Judge modules → Module → Flaw → Type 0
IsFirstIn modules judge «module» flaw = IsFirst (faults_by modules judge «module») flaw

-- The first fault, by line and column, of the first module that has one.
pub record IsDeclFault (modules : List Module) (fault : ProjectFault) : Type 0 where
  pub judge : Judge modules
  pub first : IsFirstOfAll (IsClear modules judge) (IsFirstIn modules judge) modules fault

pub record HasNoDeclFault (modules : List Module) : Type 0 where
  pub judge : Judge modules
  pub clear : Each (IsClear modules judge) modules

abbrev pub Finds : List Module → Option ProjectFault → Type 0
Finds modules None = HasNoDeclFault modules
Finds modules (Some fault) = IsDeclFault modules fault
