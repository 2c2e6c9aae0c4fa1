use Rattle.std.proofs.Common.{◌≡◌, false, take}
use Rattle.std.specs.List.{list_any}
use Rattle.module_tops.specs.Picks as spec
use Rattle.module_tops.proofs.picks.some_picks.Given as goal

abbrev pub invariant-loop-item : goal.invariant-loop-item
invariant-loop-item l = list_any (λ item. spec.picks item l.top) (take l.item-index l.items) ≡ false
