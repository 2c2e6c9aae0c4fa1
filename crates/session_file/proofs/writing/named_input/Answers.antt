use Rattle.std.proofs.Common.{IsUtf8, sym, ap, subst}
use Rattle.frame_text.specs.TypeText.{type_text}
use Rattle.session_file.proofs.Naming.{name_is_text, type_is_text}
use Rattle.session_file.proofs.writing.named_input.Goals as goal

pub name_string-requires : goal.name_string-requires
name_string-requires c = subst IsUtf8 (sym c.name.ensures) (name_is_text c.args.input.now c.requires)

pub type_string-requires : goal.type_string-requires
type_string-requires c = subst IsUtf8 (sym (ap type_text c.port.ensures)) (type_is_text c.given_types_are_ports.ensures.ports c.args.input.now c.requires)
