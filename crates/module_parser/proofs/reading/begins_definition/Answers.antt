use Rattle.std.proofs.Common.{take, None, Some, sym, ◌∙◌, ap}
use Rattle.module_grammar.specs.DeclarationReader.{own_name}
use Rattle.module_parser.proofs.Steps.{begins_by}
use Rattle.module_parser.proofs.reading.begins_definition.Goals as goal

pub returns-in-Ok : goal.returns-in-Ok
returns-in-Ok c =
    c.is_defined.ensures
    ∙ begins_by c.args.name.now c.args.behind.now (Some (c.in-Ok.found, c.own_name.new.tokens)) (sym c.is_empty.ensures ∙ c.if-is_empty.false)
    (ap own_name (sym (c.front-next.ensures ∙ ap (λ n. take n c.args.behind.now) c.extent.ensures.value)) ∙ c.in-Ok.ensures)

pub returns-in-Err-Because : goal.returns-in-Err-Because
returns-in-Err-Because c =
    begins_by c.args.name.now c.args.behind.now None (sym c.is_empty.ensures ∙ c.if-is_empty.false)
    (ap own_name (sym (c.front-next.ensures ∙ ap (λ n. take n c.args.behind.now) c.extent.ensures.value))
    ∙ c.in-Err-Because.ensures (λ z. let is = c.in-Err-Because.field-0-is in cc))
