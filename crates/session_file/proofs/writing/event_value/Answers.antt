use Rattle.session_file.proofs.Naming.{value_is_text}
use Rattle.session_file.proofs.writing.event_value.Goals as goal

pub written_input-requires : goal.written_input-requires
written_input-requires c = value_is_text c.given_types_are_ports.ensures.ports c.args.event.now c.in-Input.name c.in-Input.port c.in-Input.value c.in-Input.is c.requires
