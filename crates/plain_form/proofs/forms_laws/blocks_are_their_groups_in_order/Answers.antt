use Rattle.plain_form.proofs.Forms.{defined_annotation, defined_pattern_definition, of_block}
use Rattle.plain_form.proofs.forms_laws.blocks_are_their_groups_in_order.Goals as goal

pub returns-clause-block : goal.returns-clause-block
returns-clause-block c = λ n at ds x. of_block n at ds x

pub returns-clause-annotation : goal.returns-clause-annotation
returns-clause-annotation c = λ n at name written. defined_annotation n at name written

pub returns-clause-pattern_definition : goal.returns-clause-pattern_definition
returns-clause-pattern_definition c = λ n at p x. defined_pattern_definition n at p x
