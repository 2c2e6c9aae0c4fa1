use Rattle.typed_names.proofs.Program.{is_lowered}
use Rattle.typed_names.proofs.laws.code_of_typed_definitions_is_lowered.Goals as goal

pub returns : goal.returns
returns c = λ p groups code is typed. is_lowered p groups code is typed
