use Rattle.std.proofs.Common.{◌≡◌, map, zero}
use Rattle.core_names.specs.Binding.{names_of}
use Rattle.core_trees.specs.PatternReading.{pattern_of}
use Rattle.plain_form.specs.PlainForm.{binders}
use Rattle.core_parts.proofs.names.binders.Given as goal

abbrev pub invariant-loop-further : goal.invariant-loop-further
invariant-loop-further l = map pattern_of l.made ≡ binders (names_of l.of) l.at zero l.further
