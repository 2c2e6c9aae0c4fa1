-- There is one first fault alone, or none, where no alias is declared twice.
use Rattle.std.proofs.Common.{◌≡◌, List, Some, None, sym, ◌∙◌, ap}
use mathlib.Core.Path.{fun_ext}
use Rattle.elm_base.specs.declared.fault.ProjectFault.{ProjectFault}
use Rattle.elm_base.specs.declared.tree.Module.{Module}
use Rattle.elm_base.specs.declared.tree.TypeTree.{TypeTree}
use Rattle.module_names.specs.declared.flaws.Flaw.{Flaw}
use Rattle.written_sorts.specs.Sorting.{MakesSense}
use Rattle.type_names.specs.Known.{known_in}
use Rattle.type_names.specs.Answers.{Places}
use Rattle.alias_expansion.specs.declared.plain_alias.PlainAlias.{PlainAlias}
use Rattle.alias_expansion.specs.Expansion.{plain, knows}
use Rattle.alias_expansion.specs.Table.{AreWrittenOut}
use Rattle.type_sense.specs.WrittenOf.{written_of}
use Rattle.alias_laws.specs.Once.{AliasesOnce}
use Rattle.alias_laws.proofs.Agreeing.{same_aliases, same_plain, same_knows}
use Rattle.type_faults.specs.Flaws.{Leads}
use Rattle.type_faults.specs.Faults.{aliases_of}
use Rattle.type_faults.specs.Finding.{first_by}
use Rattle.type_faults.proofs.Determined.{same_tests, same_leads, none_of, found}
use Rattle.decl_faults.specs.Sense.{Expands, by_table, Sense, SaysWhatMakesSense}
use Rattle.decl_faults.specs.Flaws.{faults_in}
use Rattle.decl_faults.specs.Faults.{Judge, faults_by, IsDeclFault, HasNoDeclFault}

same_sense : (one two : Sense) → SaysWhatMakesSense one → SaysWhatMakesSense two → one ≡ two
same_sense one two says also =
    fun_ext (λ (type : TypeTree). same_tests (one type) (two type) (MakesSense (written_of type)) (says type) (also type))

-- whatever table of all aliases tells it, it says the same of written types
pub same_table : (modules : List Module) → AliasesOnce modules → (one two : List PlainAlias) → AreWrittenOut (known_in modules) modules one →
    AreWrittenOut (known_in modules) modules two → by_table one ≡ by_table two
same_table modules once one two first second =
    let same = same_aliases (known_in modules) modules one two once first second in
    let known : knows one ≡ knows two = fun_ext (λ (places : Places). fun_ext (λ (written : TypeTree). same_knows one two same places written)) in
    let type : plain one ≡ plain two = fun_ext (λ (places : Places). fun_ext (λ (written : TypeTree). same_plain one two same places written)) in
    λ k. record { known = known k; type = type k }

-- the faults of a module don't depend on what they are told by
same_faults : (modules : List Module) → AliasesOnce modules → (one two : Judge modules) → faults_by modules one ≡ faults_by modules two
same_faults modules once one two =
    ap (λ (s : Sense). faults_in s (known_in modules) (aliases_of modules) one.leads (by_table one.plains))
    (same_sense one.sense two.sense one.says_sense two.says_sense)
    ∙ ap (λ (l : Leads). faults_in two.sense (known_in modules) (aliases_of modules) l (by_table one.plains))
    (same_leads (aliases_of modules) one.leads two.leads one.says_leads two.says_leads)
    ∙ ap (λ (by : Expands). faults_in two.sense (known_in modules) (aliases_of modules) two.leads by)
    (same_table modules once one.plains two.plains one.written_out two.written_out)

at_judge : (modules : List Module) → AliasesOnce modules → (judge : Judge modules) (fault : ProjectFault) → IsDeclFault modules fault →
    first_by (faults_by modules judge) modules ≡ Some fault
at_judge modules once judge fault so =
    ap (λ (flaws : Module → List Flaw). first_by flaws modules) (same_faults modules once judge so.judge)
    ∙ found (faults_by modules so.judge) modules fault so.first

pub one_fault : (modules : List Module) (one two : ProjectFault) → AliasesOnce modules → IsDeclFault modules one → IsDeclFault modules two → one ≡ two
one_fault modules one two once first second =
    let e : first_by (faults_by modules first.judge) modules ≡ Some one = at_judge modules once first.judge one first in
    let f : first_by (faults_by modules first.judge) modules ≡ Some two = at_judge modules once first.judge two second in
    let both : Some one ≡ Some two = sym e ∙ f in cc

pub not_both : (modules : List Module) (fault : ProjectFault) → AliasesOnce modules → HasNoDeclFault modules → IsDeclFault modules fault → ⊥
not_both modules fault once none so =
    let e : first_by (faults_by modules none.judge) modules ≡ None = none_of (faults_by modules none.judge) modules none.clear in
    let f : first_by (faults_by modules none.judge) modules ≡ Some fault = at_judge modules once none.judge fault so in
    let both : None ≡ Some fault = sym e ∙ f in cc
