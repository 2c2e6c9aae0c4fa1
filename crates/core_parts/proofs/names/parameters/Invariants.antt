use Rattle.std.proofs.Common.{◌≡◌, map, zero}
use Rattle.core_names.specs.Binding.{names_of}
use Rattle.core_trees.specs.Reading.{core_of}
use Rattle.core_parts.proofs.Further.{locals}
use Rattle.core_parts.proofs.names.parameters.Given as goal

abbrev pub invariant-loop-further : goal.invariant-loop-further
invariant-loop-further l = map core_of l.made ≡ locals (names_of l.of) l.at zero l.further
