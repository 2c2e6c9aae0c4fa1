use Rattle.std.proofs.Common.{◌≡◌, ◌-◌, ◌≤◌, length, drop}
use Rattle.type_terms.proofs.store.Store.undo.Given as goal

abbrev pub invariant-loop-mark : goal.invariant-loop-mark
invariant-loop-mark l = record {
  enough : l.fn.mark ≤ length l.self;
  back : drop (length l.self - l.fn.mark) l.self ≡ drop (length l.fn.self - l.fn.mark) l.fn.self;
}

abbrev pub decreases-loop-mark : goal.decreases-loop-mark
decreases-loop-mark l = length l.self
