-- Laws of lines.
use Rattle.std.specs.Prelude.{◌≡◌, ◌++◌, ℕ, List}
use Rattle.std.specs.List.{flat_map}
use Rattle.script_lines.specs.declared.line.Line.{Line}
use Rattle.script_lines.specs.Lines.{HasNoNewline, lines, with_end, shortened}
use Rattle.script_lines.specs.Reading.{SaysTheSame, readings, whole_readings}

-- the lines of a script, joined, are the script
abbrev pub LinesJoin : Type 0
LinesJoin = (script : List ℕ) → flat_map with_end (lines script) ≡ script

-- whatever follows, what is kept of a script says what the script does
abbrev pub KeptSaysTheSame : Type 0
KeptSaysTheSame = (script : List ℕ) → SaysTheSame (shortened script) script

-- What was handed out of a script of which an open line is left is what its whole lines say.
abbrev pub HandedOutIsWhole : Type 0
HandedOutIsWhole = (script left : List ℕ) (said : List Line)
    → ((more : List ℕ) → readings (script ++ more) ≡ said ++ readings (left ++ more))
    → HasNoNewline left → said ≡ whole_readings script
