use Rattle.elm_typing.proofs.FlagSorts.{flagged-simple}
use Rattle.elm_typing.proofs.sort_laws.flagged_types_are_simple.Goals as goal

pub returns : goal.returns
returns c = flagged-simple
