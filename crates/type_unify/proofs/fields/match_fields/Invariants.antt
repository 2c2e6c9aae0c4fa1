use Rattle.std.proofs.Common.{drop}
use Rattle.type_unify.proofs.Match.{Waits}
use Rattle.type_unify.proofs.fields.match_fields.Given as goal

abbrev pub invariant-loop-field : goal.invariant-loop-field
invariant-loop-field l = Waits l.fn.waiting l.waiting l.left l.fn.right l.extra (drop l.field-index l.left) l.right
