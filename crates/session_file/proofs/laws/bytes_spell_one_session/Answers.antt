use Rattle.session_file.proofs.Whole.{one_session}
use Rattle.session_file.proofs.laws.bytes_spell_one_session.Goals as goal

pub returns : goal.returns
returns c = one_session c.a_sheet_has_one_content.ensures c.a_text_has_one_type.ensures c.given_types_are_ports.ensures.ports c.a_literal_has_one_value.ensures
