-- The bytes of a frame.
use Rattle.std.specs.Prelude.{ℕ, List, [], ◌∷◌, ◌++◌, codes, decimal, Option, Some, None}
use Rattle.std.specs.List.{flat_map}
use Rattle.elm_base.specs.Quoted.{quoted}
use Rattle.elm_base.specs.Spaces.{trim_end}
use Rattle.frame_text.specs.declared.parts.Parts.{Parts}
use Rattle.frame_text.specs.Lines.{line, words}

-- a bar, and behind it what is left of a row without the spaces at its end
abbrev pub barred : List ℕ → List ℕ
barred [] = codes "|"
barred (byte ∷ rest) = codes "| " ++ byte ∷ rest

abbrev pub row_line : List ℕ → List ℕ
row_line row = line (barred (trim_end row))

-- what an outbound port gives out
abbrev pub out_line : List ℕ × List ℕ → List ℕ
out_line (name, value) = line (words (codes "out" ∷ name ∷ value ∷ []))

-- how many changes wait for an async
abbrev pub pending_line : ℕ × ℕ → List ℕ
pending_line (number, count) = line (words (codes "pending" ∷ decimal number ∷ decimal count ∷ []))

-- what was noted under a tag, which is written as the literal of a text
abbrev pub note_line : List ℕ → List ℕ × List ℕ → List ℕ
note_line kind (tag, text) = line (words (kind ∷ quoted 34 tag ∷ text ∷ []))

-- where and why a run has stopped
abbrev pub stop_line : Option (List ℕ) → List ℕ
stop_line None = []
stop_line (Some stop) = line (words (codes "stopped" ∷ stop ∷ []))

-- The frame: the cursor among the recorded events, the rows of the screen, what goes out, what waits, what was noted,
-- and where the run has stopped.
abbrev pub frame_text : Parts → List ℕ
frame_text parts =
    line (words (codes "at" ∷ decimal parts.cursor ∷ codes "of" ∷ decimal parts.events ∷ []))
    ++ flat_map row_line parts.rows
    ++ flat_map out_line parts.outs
    ++ flat_map pending_line parts.pending
    ++ flat_map (note_line (codes "watch")) parts.watches
    ++ flat_map (note_line (codes "log")) parts.logs
    ++ stop_line parts.stop
    ++ line (codes ".")
