use Rattle.std.proofs.Common.{◌≡◌, IfOk, refl, subst}
use Rattle.core_names.specs.Tables.{naming, tables_of}
use Rattle.core_trees.specs.Reading.{core_of}
use Rattle.core_definitions.proofs.Sides.{definition_side, port_side}
use Rattle.core_definitions.proofs.one.right_side.Goals as goal

pub returns-in-Definition : goal.returns-in-Definition
returns-in-Definition c =
    subst (λ e. IfOk c.plain_definition.result (λ made. core_of made ≡ e))
    (definition_side (naming (tables_of c.args.names.now)) c.args.input c.args.declaration.now _ _ _ _ _ c.in-Definition.is c.as_slice.ensures) c.plain_definition.ensures

pub returns-in-PortDefinition : goal.returns-in-PortDefinition
returns-in-PortDefinition c =
    subst (λ e. IfOk c.plain_definition-in-PortDefinition.result (λ made. core_of made ≡ e))
    (port_side (naming (tables_of c.args.names.now)) c.args.input c.args.declaration.now _ _ _ _ c.in-PortDefinition.is refl) c.plain_definition-in-PortDefinition.ensures
