use Rattle.std.proofs.Common.{◌≡◌, ◌∷◌, take}
use Rattle.std.specs.List.{flat_map}
use Rattle.decl_faults.specs.Sense.{by_table}
use Rattle.type_decls.specs.Unions as unions
use Rattle.type_decls.specs.Aliases as aliases
use Rattle.type_decls.specs.Ports as ports
use Rattle.type_decls.proofs.whole.declared.Given as goal

abbrev pub invariant-loop-home : goal.invariant-loop-home
invariant-loop-home l = record {
  unions : l.decls.unions ≡ unions.bool_union ∷ unions.order_union ∷ flat_map (unions.unions_of (by_table l.plains) l.types) (take l.home-index l.modules);
  aliases : l.decls.aliases ≡ flat_map (aliases.aliases_of (by_table l.plains) l.types) (take l.home-index l.modules);
  ports : l.decls.ports ≡ flat_map (ports.ports_of (by_table l.plains) l.types) (take l.home-index l.modules);
}
