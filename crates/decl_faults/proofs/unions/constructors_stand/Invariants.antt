use Rattle.std.proofs.Common.{◌≡◌, take}
use Rattle.type_names.specs.Answers.{places_of}
use Rattle.decl_faults.specs.Sense.{by_table}
use Rattle.decl_faults.specs.Sense as spec
use Rattle.decl_faults.specs.Deciding.{sensible}
use Rattle.decl_faults.proofs.unions.constructors_stand.Given as goal

abbrev pub invariant-loop-constructor : goal.invariant-loop-constructor
invariant-loop-constructor l =
    l.stand ≡ spec.constructors_stand sensible (by_table l.aliases) (places_of l.scope)
    (spec.union_type (places_of l.scope) l.head.name.now l.head.parameters.now) (take l.constructor-index l.constructors)
