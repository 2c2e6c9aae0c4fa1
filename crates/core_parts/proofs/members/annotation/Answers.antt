use Rattle.core_names.specs.Binding.{names_of}
use Rattle.plain_form.specs.PlainForm.{plain_definition}
use Rattle.core_parts.proofs.Looking.{annotation_turn}
use Rattle.core_parts.proofs.members.annotation.Goals as goal

pub loop-definition-preserved : goal.loop-definition-preserved
loop-definition-preserved c =
    annotation_turn (plain_definition (names_of c.args.of.now)) c.args.definitions.now c.loop-definition.definition-index c.definition-item.result c.args.name.now _ c.loop-definition-test.true c.definition-item.is
    (λ others. c.in_default.ensures (names_of c.args.of.now) others) c.loop-definition.invariant
