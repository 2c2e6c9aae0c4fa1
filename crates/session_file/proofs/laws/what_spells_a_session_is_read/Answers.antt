use Rattle.session_file.proofs.Again.{read_again}
use Rattle.session_file.proofs.laws.what_spells_a_session_is_read.Goals as goal

pub returns : goal.returns
returns c = read_again c.bytes_spell_one_session.ensures
