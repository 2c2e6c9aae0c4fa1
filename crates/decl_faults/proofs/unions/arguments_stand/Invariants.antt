use Rattle.std.proofs.Common.{◌≡◌, take}
use Rattle.std.specs.List.{list_all}
use Rattle.type_names.specs.Answers.{places_of}
use Rattle.decl_faults.specs.Sense.{by_table}
use Rattle.decl_faults.specs.Sense as spec
use Rattle.decl_faults.specs.Deciding.{sensible}
use Rattle.decl_faults.proofs.unions.arguments_stand.Given as goal

abbrev pub invariant-loop-argument : goal.invariant-loop-argument
invariant-loop-argument l =
    l.stand ≡ list_all (spec.argument_stands sensible (by_table l.aliases) (places_of l.scope)
    (spec.union_type (places_of l.scope) l.head.name.now l.head.parameters.now) l.at) (take l.argument-index l.arguments)
