use Rattle.plain_form.proofs.Forms.{of_call}
use Rattle.plain_form.proofs.calls_laws.calls_take_one_argument_each.Goals as goal

pub returns : goal.returns
returns c = λ n at f xs. of_call n at f xs
