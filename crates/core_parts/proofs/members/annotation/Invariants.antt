use Rattle.std.proofs.Common.{◌≡◌, map, drop}
use Rattle.core_names.specs.Binding.{names_of}
use Rattle.plain_form.specs.PlainForm.{plain_definition, annotation_of}
use Rattle.core_parts.proofs.members.annotation.Given as goal

-- the first of what is left is the first of all
abbrev pub invariant-loop-definition : goal.invariant-loop-definition
invariant-loop-definition l = annotation_of l.name (map (plain_definition (names_of l.of)) (drop l.definition-index l.definitions)) ≡ annotation_of l.name (map (plain_definition (names_of l.of)) l.definitions)
