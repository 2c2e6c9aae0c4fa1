use Rattle.std.proofs.Common.{◌≡◌, map, take}
use Rattle.type_names.specs.Answers.{places_of}
use Rattle.decl_faults.specs.Sense.{by_table}
use Rattle.type_decls.specs.Unions as spec
use Rattle.type_decls.proofs.unions.constructors_of.Given as goal

abbrev pub invariant-loop-constructor : goal.invariant-loop-constructor
invariant-loop-constructor l = l.made ≡ map (spec.constructor_of (by_table l.aliases) (places_of l.scope)) (take l.constructor-index l.constructors)
