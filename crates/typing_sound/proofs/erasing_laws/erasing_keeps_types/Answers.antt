use Rattle.typing_sound.specs.Settings.{world_of, types_in}
use Rattle.typing_sound.proofs.Combine.{same_within}
use Rattle.typing_sound.proofs.Erased.{core_erased}
use Rattle.typing_sound.proofs.Laws.{library}
use Rattle.typing_sound.proofs.erasing_laws.erasing_keeps_types.Goals as goal

pub returns : goal.returns
returns c = λ p scope e t h.
    let names = types_in (world_of p) scope in core_erased (world_of p) (library p) e names names (same_within names) t h
