-- The lines of a script.
use Rattle.std.specs.Prelude.{◌≢◌, ◌==◌, ℕ, Bool, true, false, if◌then◌else◌, List, [], ◌∷◌, ◌++◌, reverse, map, take}
use Rattle.std.specs.List.{AllByRecursion, flat_map}
use Rattle.elm_base.specs.Spaces.{trim_start, trim_end}

-- a line without its newline, and whether a newline ended it: only the last line may have none
pub record ScriptLine : Type 0 where
  pub bytes : List ℕ
  pub ended : Bool

-- a byte in front of the first line
abbrev pub onto_line : ℕ → List ScriptLine → List ScriptLine
onto_line byte [] = record { bytes = byte ∷ []; ended = false } ∷ []
onto_line byte (line ∷ more) = record { bytes = byte ∷ line.bytes; ended = line.ended } ∷ more

-- The lines of a script: a line ends at a newline, and what follows the last newline is a line if it has a byte.
abbrev pub lines : List ℕ → List ScriptLine
lines [] = []
lines (byte ∷ rest) = if byte == 10 then record { bytes = []; ended = true } ∷ lines rest else onto_line byte (lines rest)

-- no byte of the text is this one
abbrev pub HasNone : ℕ → List ℕ → Type 0
HasNone wanted text = AllByRecursion (λ byte. byte ≢ wanted) text

abbrev pub HasNoNewline : List ℕ → Type 0
HasNoNewline text = HasNone 10 text

-- a text without its first byte, if that is a carriage return
abbrev pub without_first_return : List ℕ → List ℕ
without_first_return [] = []
without_first_return (byte ∷ rest) = if byte == 13 then rest else byte ∷ rest

-- a text without its last byte, if that is a carriage return
abbrev pub without_return : List ℕ → List ℕ
without_return text = reverse (without_first_return (reverse text))

-- What counts of a line: one carriage return before its newline is dropped, and the spaces at both ends.
abbrev pub text_of : ScriptLine → List ℕ
text_of line = trim_end (trim_start (if line.ended then without_return line.bytes else line.bytes))

-- a line as it stands in the script
abbrev pub with_end : ScriptLine → List ℕ
with_end line = line.bytes ++ (if line.ended then 10 ∷ [] else [])

-- how many bytes are kept of a line: one more than a line may have, so that one that is too long shows
abbrev pub most_kept : ℕ
most_kept = 65537

abbrev pub short : ScriptLine → ScriptLine
short line = record { bytes = take most_kept line.bytes; ended = line.ended }

-- a script of whose lines no more than these bytes are kept
abbrev pub shortened : List ℕ → List ℕ
shortened script = flat_map with_end (map short (lines script))
