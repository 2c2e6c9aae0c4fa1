-- What the lines of a script say.
use Rattle.std.specs.Prelude.{◌≡◌, ◌==◌, ◌<◌, ℕ, if◌then◌else◌, nat_lt, List, [], ◌∷◌, ◌++◌, length, map, Option, Some, None, true, false}
use Rattle.elm_base.specs.declared.command.Command.{Command}
use Rattle.script_lines.specs.declared.line.Line.{Line}
use Rattle.script_lines.specs.declared.line.Line.TheVariants as line
use Rattle.script_lines.specs.Lines.{ScriptLine, HasNoNewline, lines, text_of}
use Rattle.script_lines.specs.Commands.{command_of}

abbrev pub line_of : Option Command → Line
line_of None = line.Bad
line_of (Some command) = line.Command command

-- an empty text and a comment say nothing
abbrev pub read_text : List ℕ → Line
read_text [] = line.Nothing
read_text (first ∷ rest) = if first == 35 then line.Nothing else line_of (command_of (first ∷ rest))

-- What a line says. One of more than 65,536 bytes is too long, whatever it holds.
abbrev pub read_line : ScriptLine → Line
read_line l = if nat_lt 65536 (length l.bytes) then line.TooLong else read_text (text_of l)

-- what the lines of a script say, in order
abbrev pub readings : List ℕ → List Line
readings script = map read_line (lines script)

-- the lines that a newline ended
abbrev pub ended_lines : List ScriptLine → List ScriptLine
ended_lines [] = []
ended_lines (l ∷ more) = if l.ended then l ∷ ended_lines more else ended_lines more

-- what the lines say that a newline ended
abbrev pub whole_readings : List ℕ → List Line
whole_readings script = map read_line (ended_lines (lines script))

-- From one text to the next, a line that a newline ended was handed out, if there is one.
abbrev pub HandsOut : List ℕ → List ℕ → Option Line → Type 0
HandsOut old new None = HasNoNewline old × (new ≡ old)
HandsOut old new (Some found) =
    (first : List ℕ) × (old ≡ first ++ 10 ∷ new) × HasNoNewline first
    × (found ≡ read_line (record { bytes = first; ended = true }))

-- the last line, which no newline ended, was handed out, if it has a byte
abbrev pub HandsOutLast : List ℕ → List ℕ → Option Line → Type 0
HandsOutLast old new None = (old ≡ []) × (new ≡ [])
HandsOutLast old new (Some found) =
    (0 < length old) × (new ≡ []) × (found ≡ read_line (record { bytes = old; ended = false }))

-- whatever follows, one script says what the other does
abbrev pub SaysTheSame : List ℕ → List ℕ → Type 0
SaysTheSame one other = (more : List ℕ) → readings (one ++ more) ≡ readings (other ++ more)

-- what a line says that was handed out, if one was
abbrev pub said : Option Line → List Line
said None = []
said (Some found) = found ∷ []

-- whatever follows, a script says what was handed out and then what is left does
abbrev pub SaysFirst : List ℕ → Option Line → List ℕ → Type 0
SaysFirst whole found rest = (more : List ℕ) → readings (whole ++ more) ≡ said found ++ readings (rest ++ more)
