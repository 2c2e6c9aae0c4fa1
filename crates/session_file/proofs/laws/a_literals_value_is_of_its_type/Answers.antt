use Rattle.session_file.proofs.Typed.{literal_is_of}
use Rattle.session_file.proofs.laws.a_literals_value_is_of_its_type.Goals as goal

pub returns : goal.returns
returns c = literal_is_of
