-- What is kept of a script says what the whole does.
use Rattle.std.proofs.Common.{◌≡◌, ◌<◌, ◌≤◌, ◌+◌, ◌-◌, ◌++◌, ◌⊎◌, ◌∙◌, inl, inr, arith, ℕ, Bool, true, false, ltb, if◌then◌else◌, List, [], ◌∷◌, length, take, map, sym, ap, refl, length-append, append_assoc}
use Rattle.std.proofs.lemmas.Bool.{cases_lt, lt-ltb, ltb-false}
use Rattle.std.proofs.lemmas.List.{length-take, length-take-le, take_all, append-nil, take-take, take-append-le}
use Rattle.std.proofs.Math.Seq.{take-append-add}
use Rattle.std.specs.List.{flat_map}
use Rattle.script_lines.specs.declared.line.Line.TheVariants as line
use Rattle.script_lines.specs.Lines.{ScriptLine, HasNoNewline, lines, with_end, short, shortened, most_kept, text_of}
use Rattle.script_lines.specs.Kept.{unfinished, open_bytes, shortened_within, short_within}
use Rattle.script_lines.specs.Reading.{read_line, read_text, readings}
use Rattle.script_lines.proofs.Cutting.{Cut, Open, At, cut_of, first_same, lines_ended, lines_last, no_newline-take, no_newline-append}

-- ---- a script by its newlines

pub shortened_at : (first rest : List ℕ) → HasNoNewline first → shortened (first ++ 10 ∷ rest) ≡ take most_kept first ++ 10 ∷ shortened rest
shortened_at first rest plain =
    ap (λ ls. flat_map with_end (map short ls)) (lines_ended first rest plain)
    ∙ append_assoc (take most_kept first) (10 ∷ []) (shortened rest)

pub shortened_open : (text : List ℕ) → HasNoNewline text → shortened text ≡ take most_kept text
shortened_open [] plain = refl
shortened_open (byte ∷ text) plain =
    ap (λ ls. flat_map with_end (map short ls)) (lines_last byte text plain)
    ∙ append-nil (take most_kept (byte ∷ text) ++ [])
    ∙ append-nil (take most_kept (byte ∷ text))

pub within_at : (room : ℕ) (first rest : List ℕ) → HasNoNewline first → shortened_within room (first ++ 10 ∷ rest) ≡ take room first ++ 10 ∷ shortened rest
within_at room first rest plain =
    ap (short_within room) (lines_ended first rest plain)
    ∙ append_assoc (take room first) (10 ∷ []) (shortened rest)

take_none : (room : ℕ) → take {A = ℕ} room [] ≡ []
take_none room = take_all room [] (omega arith)

pub within_open : (room : ℕ) (text : List ℕ) → HasNoNewline text → shortened_within room text ≡ take room text
within_open room [] plain = sym (take_none room)
within_open room (byte ∷ text) plain =
    ap (short_within room) (lines_last byte text plain)
    ∙ append-nil (take room (byte ∷ text) ++ [])
    ∙ append-nil (take room (byte ∷ text))

-- with the room of any line it is the script shortened
pub within_most : (lines_of : List ScriptLine) → short_within most_kept lines_of ≡ flat_map with_end (map short lines_of)
within_most [] = refl
within_most (line ∷ more) = refl

pub unfinished_at : (first rest : List ℕ) → HasNoNewline first → unfinished (first ++ 10 ∷ rest) ≡ unfinished rest
unfinished_at first rest plain = ap open_bytes (lines_ended first rest plain) ∙ behind (lines rest) where
  behind : (more : List ScriptLine) → open_bytes (record { bytes = first; ended = true } ∷ more) ≡ open_bytes more
  behind [] = refl
  behind (next ∷ more) = refl

pub unfinished_open : (text : List ℕ) → HasNoNewline text → unfinished text ≡ text
unfinished_open [] plain = refl
unfinished_open (byte ∷ text) plain = ap open_bytes (lines_last byte text plain)

-- ---- bytes in front

take_twice : (n : ℕ) (text more : List ℕ) → (n < length text) ⊎ (length text ≤ n) → take n (take n text ++ more) ≡ take n (text ++ more)
take_twice n text more (inr few) = ap (λ front. take n (front ++ more)) (take_all n text few)
take_twice n text more (inl many) =
    let within : n ≤ length text = omega arith in
    take-append-le n (take n text) more (omega (arith, length-take-le n text within))
    ∙ take-take n n text (omega arith)
    ∙ sym (take-append-le n text more within)

-- a line with more bytes behind it
take_line : (text more : List ℕ) → take most_kept (take most_kept text ++ more) ≡ take most_kept (text ++ more)
take_line text more = take_twice most_kept text more (cases_lt most_kept (length text))

take_same : (text : List ℕ) → take most_kept (take most_kept text) ≡ take most_kept text
take_same text = take-take most_kept most_kept text (omega arith)

at_front : (front text rest : List ℕ) → front ++ (text ++ 10 ∷ rest) ≡ (front ++ text) ++ 10 ∷ rest
at_front front text rest = sym (append_assoc front text (10 ∷ rest))

-- an open line, and what follows it
twice_open : (text more : List ℕ) → HasNoNewline text → Cut more → shortened (take most_kept text ++ more) ≡ shortened (text ++ more)
twice_open text more plain (Open _ also) =
    shortened_open (take most_kept text ++ more) (no_newline-append (take most_kept text) more (no_newline-take most_kept text plain) also)
    ∙ take_line text more
    ∙ sym (shortened_open (text ++ more) (no_newline-append text more plain also))
twice_open text _ plain (At first rest also cut) =
    let kept = take most_kept text in
    ap shortened (at_front kept first rest)
    ∙ shortened_at (kept ++ first) rest (no_newline-append kept first (no_newline-take most_kept text plain) also)
    ∙ ap (λ line. line ++ 10 ∷ shortened rest) (take_line text first)
    ∙ sym (shortened_at (text ++ first) rest (no_newline-append text first plain also))
    ∙ ap shortened (sym (at_front text first rest))

-- What is kept of a script is kept again as the script itself, whatever follows.
twice : (text more : List ℕ) → Cut text → shortened (shortened text ++ more) ≡ shortened (text ++ more)
twice text more (Open _ plain) =
    ap (λ kept. shortened (kept ++ more)) (shortened_open text plain) ∙ twice_open text more plain (cut_of more)
twice _ more (At first rest plain cut) =
    let kept = take most_kept first in
    ap (λ text. shortened (text ++ more)) (shortened_at first rest plain)
    ∙ ap shortened (append_assoc kept (10 ∷ shortened rest) more)
    ∙ shortened_at kept (shortened rest ++ more) (no_newline-take most_kept first plain)
    ∙ ap (λ line. line ++ 10 ∷ shortened (shortened rest ++ more)) (take_same first)
    ∙ ap (λ others. kept ++ 10 ∷ others) (twice rest more cut)
    ∙ sym (shortened_at first (rest ++ more) plain)
    ∙ ap shortened (sym (append_assoc first (10 ∷ rest) more))

pub shortened_twice : (text more : List ℕ) → shortened (shortened text ++ more) ≡ shortened (text ++ more)
shortened_twice text more = twice text more (cut_of text)

pub shortened_again : (text : List ℕ) → shortened (shortened text) ≡ shortened text
shortened_again text =
    ap shortened (sym (append-nil (shortened text))) ∙ shortened_twice text [] ∙ ap shortened (append-nil text)

-- ---- what is said

too_long : (l : ScriptLine) → 65536 < length l.bytes → read_line l ≡ line.TooLong
too_long l long = ap (λ test. if test then line.TooLong else read_text (text_of l)) (lt-ltb 65536 (length l.bytes) long)

-- a line of which no more is kept says what the whole line does
read_kept : (bytes : List ℕ) (ended : Bool) → (most_kept < length bytes) ⊎ (length bytes ≤ most_kept) → read_line (record { bytes = take most_kept bytes; ended = ended }) ≡ read_line (record { bytes = bytes; ended = ended })
read_kept bytes ended (inr few) = ap (λ (kept : List ℕ). read_line (record { bytes = kept; ended = ended })) (take_all most_kept bytes few)
read_kept bytes ended (inl many) =
    too_long (record { bytes = take most_kept bytes; ended = ended }) (omega (arith, length-take-le most_kept bytes (omega arith)))
    ∙ sym (too_long (record { bytes = bytes; ended = ended }) (omega arith))

pub readings_at : (first rest : List ℕ) → HasNoNewline first → readings (first ++ 10 ∷ rest) ≡ read_line (record { bytes = first; ended = true }) ∷ readings rest
readings_at first rest plain = ap (map read_line) (lines_ended first rest plain)

readings_open : (byte : ℕ) (text : List ℕ) → HasNoNewline (byte ∷ text) → readings (byte ∷ text) ≡ read_line (record { bytes = byte ∷ text; ended = false }) ∷ []
readings_open byte text plain = ap (map read_line) (lines_last byte text plain)

pub readings_last : (text : List ℕ) → 0 < length text → HasNoNewline text → readings text ≡ read_line (record { bytes = text; ended = false }) ∷ []
readings_last [] some plain = absurd (omega arith)
readings_last (byte ∷ text) some plain = readings_open byte text plain

open_kept : (text : List ℕ) → HasNoNewline text → readings (take most_kept text) ≡ readings text
open_kept [] plain = refl
open_kept (byte ∷ text) plain =
    readings_open byte (take 65536 text) (no_newline-take most_kept (byte ∷ text) plain)
    ∙ ap (λ found. found ∷ []) (read_kept (byte ∷ text) false (cases_lt most_kept (length (byte ∷ text))))
    ∙ sym (readings_open byte text plain)

kept_says : (text : List ℕ) → Cut text → readings (shortened text) ≡ readings text
kept_says text (Open _ plain) = ap readings (shortened_open text plain) ∙ open_kept text plain
kept_says _ (At first rest plain cut) =
    ap readings (shortened_at first rest plain)
    ∙ readings_at (take most_kept first) (shortened rest) (no_newline-take most_kept first plain)
    ∙ ap (λ found. found ∷ readings (shortened rest)) (read_kept first true (cases_lt most_kept (length first)))
    ∙ ap (λ more. read_line (record { bytes = first; ended = true }) ∷ more) (kept_says rest cut)
    ∙ sym (readings_at first rest plain)

-- What is kept of a script says what the script does, whatever follows.
pub says_the_same : (text more : List ℕ) → readings (shortened text ++ more) ≡ readings (text ++ more)
says_the_same text more =
    sym (kept_says (shortened text ++ more) (cut_of (shortened text ++ more)))
    ∙ ap readings (shortened_twice text more)
    ∙ kept_says (text ++ more) (cut_of (text ++ more))

-- ---- what is appended

-- a script whose lines are short has a short first line, and short others
pub short_parts : (first rest : List ℕ) → HasNoNewline first → shortened (first ++ 10 ∷ rest) ≡ first ++ 10 ∷ rest → (take most_kept first ≡ first) × (shortened rest ≡ rest)
short_parts first rest plain is =
    first_same (take most_kept first) (shortened rest) first rest (no_newline-take most_kept first plain) plain (sym (shortened_at first rest plain) ∙ is)

-- what is appended to an open line
append_open : (text piece : List ℕ) → HasNoNewline text → take most_kept text ≡ text → Cut piece → text ++ shortened_within (most_kept - length text) piece ≡ shortened (text ++ piece)
append_open text piece plain is cut = go piece cut where
  fits : length text ≤ most_kept
  fits = omega (arith, ap length is, length-take most_kept text)

  line : (more : List ℕ) → text ++ take (most_kept - length text) more ≡ take most_kept (text ++ more)
  line more = let n : length text + (most_kept - length text) ≡ most_kept = omega (arith, fits) in sym (take-append-add text more (most_kept - length text)) ∙ ap (λ n. take n (text ++ more)) n

  go : (piece : List ℕ) → Cut piece → text ++ shortened_within (most_kept - length text) piece ≡ shortened (text ++ piece)
  go piece (Open _ also) =
      ap (λ kept. text ++ kept) (within_open (most_kept - length text) piece also)
      ∙ line piece
      ∙ sym (shortened_open (text ++ piece) (no_newline-append text piece plain also))
  go _ (At first rest also cut) =
      ap (λ kept. text ++ kept) (within_at (most_kept - length text) first rest also)
      ∙ sym (append_assoc text (take (most_kept - length text) first) (10 ∷ shortened rest))
      ∙ ap (λ kept. kept ++ 10 ∷ shortened rest) (line first)
      ∙ sym (shortened_at (text ++ first) rest (no_newline-append text first plain also))
      ∙ ap shortened (sym (at_front text first rest))

append_by : (text piece : List ℕ) → Cut text → shortened text ≡ text → text ++ shortened_within (most_kept - length (unfinished text)) piece ≡ shortened (text ++ piece)
append_by text piece (Open _ plain) is =
    ap (λ (left : List ℕ). text ++ shortened_within (most_kept - length left) piece) (unfinished_open text plain)
    ∙ append_open text piece plain (sym (shortened_open text plain) ∙ is) (cut_of piece)
append_by _ piece (At first rest plain cut) is =
    let parts = short_parts first rest plain is in
    ap (λ (left : List ℕ). (first ++ 10 ∷ rest) ++ shortened_within (most_kept - length left) piece) (unfinished_at first rest plain)
    ∙ append_assoc first (10 ∷ rest) (shortened_within (most_kept - length (unfinished rest)) piece)
    ∙ ap (λ others. first ++ 10 ∷ others) (append_by rest piece cut parts.1)
    ∙ ap (λ line. line ++ 10 ∷ shortened (rest ++ piece)) (sym parts.0)
    ∙ sym (shortened_at first (rest ++ piece) plain)
    ∙ ap shortened (sym (append_assoc first (10 ∷ rest) piece))

-- Of a piece behind a script whose lines are short, its first line has the room that the open line leaves.
pub appended : (text piece : List ℕ) → shortened text ≡ text → text ++ shortened_within (most_kept - length (unfinished text)) piece ≡ shortened (text ++ piece)
appended text piece is = append_by text piece (cut_of text) is

-- the open line of a script whose lines are short is short
unfinished_by : (text : List ℕ) → Cut text → shortened text ≡ text → length (unfinished text) ≤ most_kept
unfinished_by text (Open _ plain) is =
    omega (arith, ap length (unfinished_open text plain), ap length (sym (shortened_open text plain) ∙ is), length-take most_kept text)
unfinished_by _ (At first rest plain cut) is =
    omega (arith, ap length (unfinished_at first rest plain), unfinished_by rest cut (short_parts first rest plain is).1)

pub unfinished_short : (text : List ℕ) → shortened text ≡ text → length (unfinished text) ≤ most_kept
unfinished_short text is = unfinished_by text (cut_of text) is

-- a script with no more bytes than are kept of a line has short lines
few_by : (text : List ℕ) → Cut text → length text ≤ most_kept → shortened text ≡ text
few_by text (Open _ plain) few = shortened_open text plain ∙ take_all most_kept text few
few_by _ (At first rest plain cut) few =
    let sum = length-append first (10 ∷ rest) in
    shortened_at first rest plain
    ∙ ap (λ line. line ++ 10 ∷ shortened rest) (take_all most_kept first (omega (arith, sum)))
    ∙ ap (λ others. first ++ 10 ∷ others) (few_by rest cut (omega (arith, sum)))

pub few_bytes : (text : List ℕ) → length text ≤ most_kept → shortened text ≡ text
few_bytes text few = few_by text (cut_of text) few
