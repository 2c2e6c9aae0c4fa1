-- The function that finds the first fault finds the first fault.
use Rattle.std.proofs.Common.{◌≡◌, List, Option, Some, None, sym, ◌∙◌, ap, subst}
use Rattle.bit_rows.specs.Table.{Table, bit_of}
use Rattle.module_groups.specs.Search.{SaysWhatReaches}
use Rattle.elm_base.specs.declared.fault.ProjectFault.{ProjectFault}
use Rattle.elm_base.specs.declared.tree.TypeTree.{TypeTree}
use Rattle.elm_base.specs.declared.tree.Module.{Module}
use Rattle.type_names.specs.declared.known.KnownType.{KnownType}
use Rattle.type_names.specs.Known.{known_in}
use Rattle.alias_cycles.specs.declared.texts.AliasText.{AliasText}
use Rattle.alias_cycles.specs.Naming.{aliases_in}
use Rattle.alias_cycles.specs.Cycles.{refers}
use Rattle.alias_expansion.specs.declared.plain_alias.PlainAlias.{PlainAlias}
use Rattle.alias_expansion.specs.Table.{AreWrittenOut}
use Rattle.type_sense.specs.WrittenOf.{written_of}
use Rattle.type_faults.specs.Faults.{aliases_of}
use Rattle.type_faults.specs.Finding.{first_by}
use Rattle.type_faults.proofs.Finding.{Says, says_all, says_leads}
use Rattle.decl_faults.specs.Sense.{by_table}
use Rattle.decl_faults.specs.Flaws.{faults_in}
use Rattle.decl_faults.specs.Faults.{Judge, faults_by, Finds}
use Rattle.decl_faults.specs.Deciding.{sensible}
use Rattle.decl_faults.proofs.Deciding.{decides}

judge_of : (modules : List Module) (reached : Table) (plains : List PlainAlias) → SaysWhatReaches (refers (aliases_of modules)) reached →
    AreWrittenOut (known_in modules) modules plains → Judge modules
judge_of modules reached plains says out = record {
  leads = bit_of reached;
  plains = plains;
  sense = sensible;
  says_leads = says_leads (aliases_of modules) reached says;
  written_out = out;
  says_sense = λ (type : TypeTree). decides (written_of type);
}

found_by : (modules : List Module) (judge : Judge modules) (found : Option ProjectFault) → Says (faults_by modules judge) modules found → Finds modules found
found_by modules judge None all = record { judge = judge; clear = all }
found_by modules judge (Some fault) first = record { judge = judge; first = first }

finds : (modules : List Module) (reached : Table) (plains : List PlainAlias) (found : Option ProjectFault) →
    SaysWhatReaches (refers (aliases_of modules)) reached → AreWrittenOut (known_in modules) modules plains →
    found ≡ first_by (faults_in sensible (known_in modules) (aliases_of modules) (bit_of reached) (by_table plains)) modules → Finds modules found
unfolding judge_of
finds modules reached plains found says out e =
    let judge = judge_of modules reached plains says out in
    found_by modules judge found
    (subst (λ (o : Option ProjectFault). Says (faults_by modules judge) modules o) (sym e) (says_all (faults_by modules judge) modules))

-- the same by the types and aliases that were found
pub finds_at : (modules : List Module) (types : List KnownType) (aliases : List AliasText) (reached : Table) (plains : List PlainAlias)
    (found : Option ProjectFault) → types ≡ known_in modules → aliases ≡ aliases_in types modules → SaysWhatReaches (refers aliases) reached →
    AreWrittenOut types modules plains → found ≡ first_by (faults_in sensible types aliases (bit_of reached) (by_table plains)) modules → Finds modules found
finds_at modules types aliases reached plains found e f says out is =
    let g : aliases ≡ aliases_of modules = f ∙ ap (λ (ts : List KnownType). aliases_in ts modules) e in
    finds modules reached plains found (subst (λ (xs : List AliasText). SaysWhatReaches (refers xs) reached) g says)
    (subst (λ (ts : List KnownType). AreWrittenOut ts modules plains) e out)
    (is ∙ ap (λ (ts : List KnownType). first_by (faults_in sensible ts aliases (bit_of reached) (by_table plains)) modules) e
    ∙ ap (λ (xs : List AliasText). first_by (faults_in sensible (known_in modules) xs (bit_of reached) (by_table plains)) modules) g)
