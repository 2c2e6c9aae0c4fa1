use Rattle.std.proofs.Common.{length}
use Rattle.reactor_engine.specs.Served.{KeepsServed}
use Rattle.reactor_engine.proofs.answering.answer_lines.Given as goal

-- the lines so far were answered
abbrev pub invariant-loop-line : goal.invariant-loop-line
invariant-loop-line l = KeepsServed l.fn.session l.fn.lines l.fn.out.items l.session l.lines l.out.items

abbrev pub decreases-loop-line : goal.decreases-loop-line
decreases-loop-line l = length l.lines
