use Rattle.std.proofs.Common.{◌∙◌, sym}
use Rattle.type_conditions.proofs.Composing.{if_ok-map}
use Rattle.type_instances.proofs.Adding.{new_number, new_flagged, no_arguments}
use Rattle.type_instances.proofs.table.new_type.Goals as goal

pub returns-then-begins-clause-adds : goal.returns-then-begins-clause-adds
returns-then-begins-clause-adds c =
    if_ok-map _ _ _ (λ at a. new_number c.args.name.now _ _ _ at (sym c.begins.ensures ∙ c.if-begins.true) c.in_ok-name.ensures (no_arguments _ _ _ _ at c.new.ensures a)) c.make.ensures.adds

pub returns-clause-adds : goal.returns-clause-adds
returns-clause-adds c =
    if_ok-map _ _ _ (λ at a. new_flagged c.args.name.now _ _ _ at (sym c.begins.ensures ∙ c.if-begins.false) c.flag_named.ensures a) c.variable.ensures.adds
