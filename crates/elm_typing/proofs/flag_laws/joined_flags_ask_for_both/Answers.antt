use Rattle.elm_typing.proofs.FlagSorts.{joined-both}
use Rattle.elm_typing.proofs.flag_laws.joined_flags_ask_for_both.Goals as goal

pub returns : goal.returns
returns c = joined-both
