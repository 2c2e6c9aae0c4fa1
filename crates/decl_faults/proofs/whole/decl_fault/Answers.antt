use Rattle.std.proofs.Common.{List, ◌∙◌, ap, subst}
use Rattle.bit_rows.specs.Table.{bit_of}
use Rattle.module_groups.specs.Search.{SaysWhatReaches}
use Rattle.type_names.specs.declared.known.KnownType.{KnownType}
use Rattle.alias_cycles.specs.declared.texts.AliasText.{AliasText}
use Rattle.alias_cycles.specs.Naming.{aliases_in}
use Rattle.alias_cycles.specs.Cycles.{refers}
use Rattle.alias_expansion.specs.declared.plain_alias.PlainAlias.{PlainAlias}
use Rattle.alias_expansion.specs.Table.{AreWrittenOut}
use Rattle.type_faults.specs.Finding.{first_by}
use Rattle.decl_faults.specs.Sense.{by_table}
use Rattle.decl_faults.specs.Flaws.{faults_in}
use Rattle.decl_faults.specs.Deciding.{sensible}
use Rattle.decl_faults.proofs.Finding.{finds_at}
use Rattle.decl_faults.proofs.whole.decl_fault.Goals as goal

pub returns : goal.returns
returns c =
    let modules = c.args.modules.now in
    let table = c.in_ok-table.table in
    finds_at modules c.in_ok-types.types c.in_ok-aliases.aliases table c.in_ok-plains.plains c.in_ok-found.found c.in_ok-types.ensures
    (c.in_ok-aliases.ensures ∙ ap (λ (types : List KnownType). aliases_in types modules) c.as_slice.ensures)
    (subst (λ (aliases : List AliasText). SaysWhatReaches (refers aliases) table) c.as_slice-2.ensures c.in_ok-table.ensures.exact)
    (subst (λ (types : List KnownType). AreWrittenOut types modules c.in_ok-plains.plains) c.as_slice-3.ensures c.in_ok-plains.ensures)
    (c.in_ok-found.ensures
    ∙ ap (λ (types : List KnownType). first_by (faults_in sensible types c.as_slice-5.result.now (bit_of table) (by_table c.as_slice-6.result.now)) modules)
    c.as_slice-4.ensures
    ∙ ap (λ (aliases : List AliasText). first_by (faults_in sensible c.in_ok-types.types aliases (bit_of table) (by_table c.as_slice-6.result.now)) modules)
    c.as_slice-5.ensures
    ∙ ap (λ (plains : List PlainAlias).
    first_by (faults_in sensible c.in_ok-types.types c.in_ok-aliases.aliases (bit_of table) (by_table plains)) modules) c.as_slice-6.ensures)
