use Rattle.std.proofs.Common.{◌≡◌, ◌≤◌, ◌-◌, ℕ, List, Some}
use Rattle.script_lines.specs.Lines.{HasNoNewline}
use Rattle.reactor_outside.specs.Shelf.{Files}
use Rattle.reactor_engine.specs.Session.{state_of}
use Rattle.reactor_engine.proofs.Following.{Rest}
use Rattle.reactor_engine.proofs.serve.follow_lines.Given as goal

-- nothing has failed, and what is told of the source and the sink agrees with the bytes taken
abbrev pub invariant-pieces : goal.invariant-pieces
invariant-pieces g l = record {
  open_line : HasNoNewline l.lines;
  few : l.taken ≤ 1073741824;
  reads : g.S.Source.faults l.script ≡ g.S.Source.faults l.fn.script;
  writes : g.K.Sink.faults l.screen ≡ g.K.Sink.faults l.fn.screen;
  told : (files : Files) (script : List ℕ) → g.S.Source.left l.fn.script ≡ Some script
      → Rest (state_of l.fn.session files) (state_of l.session files) script l.lines l.taken (g.S.Source.left l.script) (g.K.Sink.taken l.fn.screen) (g.K.Sink.taken l.screen);
}

abbrev pub decreases-pieces : goal.decreases-pieces
decreases-pieces g l = 1073741825 - l.taken
