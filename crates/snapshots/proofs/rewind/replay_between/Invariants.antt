use Rattle.std.proofs.Common.{◌≡◌, ◌+◌, ◌-◌, ◌≤◌, take, map}
use Rattle.snapshots.specs.Past.{KeepsPrefixes, StandsFor}
use Rattle.snapshots.proofs.rewind.replay_between.Given as goal

abbrev pub invariant-loop-at : goal.invariant-loop-at
invariant-loop-at g l = let r = g.R.Replay in record {
  shows : r.list l.replay ≡ take l.at (map r.content l.events);
  made : r.made l.replay ≡ r.made l.fn.replay;
  marks : KeepsPrefixes (map r.content l.events) (StandsFor (r.good l.fn.replay) (r.list_of l.fn.replay)) (StandsFor (r.good l.replay) (r.list_of l.replay));
  counted : l.steps ≤ l.fn.steps + (l.at - l.from);
  taken : r.taken l.replay ≤ r.taken l.fn.replay + (l.at - l.from);
}
