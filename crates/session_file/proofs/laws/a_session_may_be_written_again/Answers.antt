use Rattle.session_file.proofs.Rewriting.{may_be_written}
use Rattle.session_file.proofs.laws.a_session_may_be_written_again.Goals as goal

pub returns : goal.returns
returns c = may_be_written
