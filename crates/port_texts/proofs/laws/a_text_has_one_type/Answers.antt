use Rattle.port_texts.proofs.Complete.{one_type}
use Rattle.port_texts.proofs.laws.a_text_has_one_type.Goals as goal

pub returns : goal.returns
returns c = one_type
