-- A project declares one list of types and ports alone, where no alias is declared twice.
use Rattle.std.proofs.Common.{◌≡◌, List, ◌∷◌, sym, ◌∙◌, ap}
use Rattle.std.specs.List.{flat_map}
use Rattle.elm_base.specs.declared.fault.ProjectFault.{ProjectFault}
use Rattle.elm_base.specs.declared.project.Decls.{Decls}
use Rattle.elm_base.specs.declared.tree.Module.{Module}
use Rattle.type_names.specs.Known.{known_in}
use Rattle.alias_laws.specs.Once.{AliasesOnce}
use Rattle.decl_faults.specs.Sense.{Expands, by_table}
use Rattle.decl_faults.specs.Faults.{IsDeclFault}
use Rattle.decl_faults.proofs.Determined.{same_table, not_both}
use Rattle.type_decls.specs.Unions.{bool_union, order_union, unions_of}
use Rattle.type_decls.specs.Aliases.{aliases_of}
use Rattle.type_decls.specs.Ports.{ports_of}
use Rattle.type_decls.specs.Declaring.{AreDeclared, IsDeclared}

are_same : (modules : List Module) (one two : Decls) → AliasesOnce modules → AreDeclared modules one → AreDeclared modules two → one ≡ two
are_same modules one two once first second =
    let by : by_table first.plains ≡ by_table second.plains =
    same_table modules once first.plains second.plains first.written_out second.written_out in
    let unions : one.unions ≡ two.unions =
    first.unions ∙ ap (λ (b : Expands). bool_union ∷ order_union ∷ flat_map (unions_of b (known_in modules)) modules) by ∙ sym second.unions in
    let aliases : one.aliases ≡ two.aliases =
    first.aliases ∙ ap (λ (b : Expands). flat_map (aliases_of b (known_in modules)) modules) by ∙ sym second.aliases in
    let ports : one.ports ≡ two.ports =
    first.ports ∙ ap (λ (b : Expands). flat_map (ports_of b (known_in modules)) modules) by ∙ sym second.ports in
    λ k. record { unions = unions k; aliases = aliases k; ports = ports k }

pub one_list : (modules : List Module) (one two : Decls) → AliasesOnce modules → IsDeclared modules one → IsDeclared modules two → one ≡ two
one_list modules one two once first second = are_same modules one two once first.are second.are

pub never_both : (modules : List Module) (decls : Decls) (fault : ProjectFault) → AliasesOnce modules → IsDeclared modules decls →
    IsDeclFault modules fault → ⊥
never_both modules decls fault once so fails = not_both modules fault once so.clear fails
