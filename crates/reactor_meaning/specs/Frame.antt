-- The frame: what is shown of a program at a cursor.
use Rattle.std.specs.Prelude.{ℕ, List, [], length, take, None}
use Rattle.elm_base.specs.declared.event.Event.{Event}
use Rattle.frame_text.specs.declared.parts.Parts.{Parts}
use Rattle.frame_text.specs.Frame.{frame_text}
use Rattle.reactor_meaning.specs.Program.{Program, screen}

-- what is shown of a program with these recorded events at the cursor: the programs that are served note and give out
-- nothing, and never stop
abbrev pub parts_of : Program → List Event → ℕ → Parts
parts_of program events cursor = record {
  cursor = cursor;
  events = length events;
  rows = screen program (take cursor events);
  outs = [];
  pending = [];
  watches = [];
  logs = [];
  stop = None;
}

-- The frame of a program with these recorded events at the cursor: what a fresh run of the program on the first
-- events, as many as the cursor says, shows. Nothing that was done before is part of it.
abbrev pub frame : Program → List Event → ℕ → List ℕ
frame program events cursor = frame_text (parts_of program events cursor)
