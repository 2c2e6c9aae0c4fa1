use Rattle.std.proofs.Common.{◌≡◌, length, map}
use Rattle.layout_lexer.specs.Marks.{is_listed}
use Rattle.layout_lexer.proofs.name.is_listed.Given as goal

abbrev pub invariant-loop-list : goal.invariant-loop-list
invariant-loop-list l = is_listed (map (λ w. w.now) l.list) l.word ≡ is_listed (map (λ w. w.now) l.initial.list) l.word

abbrev pub decreases-loop-list : goal.decreases-loop-list
decreases-loop-list l = length l.list
