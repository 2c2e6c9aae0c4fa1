use Rattle.std.proofs.Common.{List, ◌∙◌, ap, subst}
use Rattle.bit_rows.specs.Table.{bit_of}
use Rattle.module_groups.specs.Search.{SaysWhatReaches}
use Rattle.type_names.specs.declared.known.KnownType.{KnownType}
use Rattle.alias_cycles.specs.declared.texts.AliasText.{AliasText}
use Rattle.alias_cycles.specs.Naming.{aliases_in}
use Rattle.alias_cycles.specs.Cycles.{refers}
use Rattle.type_faults.specs.Finding.{first_of}
use Rattle.type_faults.proofs.Finding.{finds_at}
use Rattle.type_faults.proofs.whole.text_fault.Goals as goal

pub returns : goal.returns
returns c =
    finds_at c.args.modules.now c.in_ok-types.types c.in_ok-aliases.aliases c.in_ok-table.table c.in_ok-found.found c.in_ok-types.ensures
    (c.in_ok-aliases.ensures ∙ ap (λ (types : List KnownType). aliases_in types c.args.modules.now) c.as_slice.ensures)
    (subst (λ (aliases : List AliasText). SaysWhatReaches (refers aliases) c.in_ok-table.table) c.as_slice-2.ensures c.in_ok-table.ensures.exact)
    (c.in_ok-found.ensures
    ∙ ap (λ (types : List KnownType). first_of types c.as_slice-4.result.now (bit_of c.in_ok-table.table) c.args.modules.now) c.as_slice-3.ensures
    ∙ ap (λ (aliases : List AliasText). first_of c.in_ok-types.types aliases (bit_of c.in_ok-table.table) c.args.modules.now) c.as_slice-4.ensures)
