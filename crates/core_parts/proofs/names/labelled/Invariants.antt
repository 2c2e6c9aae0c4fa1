use Rattle.std.proofs.Common.{◌≡◌, map, take, zero}
use Rattle.core_names.specs.Binding.{names_of}
use Rattle.core_parts.specs.Making.{field_of}
use Rattle.core_parts.proofs.Further.{labelled_locals}
use Rattle.core_parts.proofs.names.labelled.Given as goal

abbrev pub invariant-loop-label : goal.invariant-loop-label
invariant-loop-label l = (l.further ≡ l.label-index) × (map field_of l.made ≡ labelled_locals (names_of l.of) l.at zero (take l.label-index l.labels))
