-- The declared types and ports of a project.
use Rattle.std.specs.Prelude.{◌≡◌, List, ◌∷◌}
use Rattle.std.specs.List.{flat_map}
use Rattle.elm_base.specs.declared.project.Decls.{Decls}
use Rattle.elm_base.specs.declared.tree.Module.{Module}
use Rattle.type_names.specs.Known.{known_in}
use Rattle.alias_expansion.specs.declared.plain_alias.PlainAlias.{PlainAlias}
use Rattle.alias_expansion.specs.Table.{AreWrittenOut}
use Rattle.decl_faults.specs.Sense.{by_table}
use Rattle.decl_faults.specs.Faults.{HasNoDeclFault}
use Rattle.type_decls.specs.Unions.{bool_union, order_union, unions_of}
use Rattle.type_decls.specs.Aliases.{aliases_of}
use Rattle.type_decls.specs.Ports.{ports_of}

-- Bool and Order of Basics come first, then the unions that the modules declare, in the order of the modules; in the same order
-- stand aliases, and ports. Their types are written without aliases, each named with its module.
pub record AreDeclared (modules : List Module) (decls : Decls) : Type 0 where
  pub plains : List PlainAlias
  pub written_out : AreWrittenOut (known_in modules) modules plains
  pub unions : decls.unions ≡ bool_union ∷ order_union ∷ flat_map (unions_of (by_table plains) (known_in modules)) modules
  pub aliases : decls.aliases ≡ flat_map (aliases_of (by_table plains) (known_in modules)) modules
  pub ports : decls.ports ≡ flat_map (ports_of (by_table plains) (known_in modules)) modules

-- The declared types and ports of a project, in which these have no fault.
pub record IsDeclared (modules : List Module) (decls : Decls) : Type 0 where
  pub clear : HasNoDeclFault modules
  pub are : AreDeclared modules decls
