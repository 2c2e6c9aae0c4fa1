use Rattle.typing_rules.proofs.Formed.{held}
use Rattle.typing_rules.proofs.form_cases.makers_are_held_to_their_types.Goals as goal

pub returns-clause-held : goal.returns-clause-held
returns-clause-held c = held
