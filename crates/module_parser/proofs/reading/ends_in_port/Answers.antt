use Rattle.std.proofs.Common.{sym, ◌∙◌, ap}
use Rattle.module_grammar.specs.Modules.{is_port}
use Rattle.module_parser.proofs.Steps.{last_place}
use Rattle.module_parser.proofs.reading.ends_in_port.Goals as goal

pub returns-in-len1-up : goal.returns-in-len1-up
returns-in-len1-up c =
    c.is_port.ensures ∙ ap (is_port c.args.name.now) c.last-item.is ∙ sym (last_place c.args.name.now c.args.before.now c.last-item.result c.in-len1-up.len_at_least)
