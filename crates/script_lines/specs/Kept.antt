-- What is kept of a script, beside the definition of its lines: words for the calls that keep it.
use Rattle.std.specs.Prelude.{ℕ, if◌then◌else◌, List, [], ◌∷◌, ◌++◌, map, take}
use Rattle.std.specs.List.{flat_map}
use Rattle.script_lines.specs.Lines.{ScriptLine, lines, with_end, short}

-- what follows the last newline
abbrev pub open_bytes : List ScriptLine → List ℕ
open_bytes [] = []
open_bytes (line ∷ []) = if line.ended then [] else line.bytes
open_bytes (line ∷ next ∷ more) = open_bytes (next ∷ more)

abbrev pub unfinished : List ℕ → List ℕ
unfinished script = open_bytes (lines script)

abbrev pub short_within : ℕ → List ScriptLine → List ℕ
short_within room [] = []
short_within room (line ∷ more) =
    with_end (record { bytes = take room line.bytes; ended = line.ended }) ++ flat_map with_end (map short more)

-- a script of whose first line so many bytes are kept, and of its others as many as of any line
abbrev pub shortened_within : ℕ → List ℕ → List ℕ
shortened_within room script = short_within room (lines script)
