-- What is kept of a piece, line by line.
use Rattle.std.proofs.Common.{◌≡◌, ◌<◌, ◌≤◌, ◌+◌, ◌-◌, ◌++◌, ◌∙◌, arith, ℕ, Bool, true, false, List, [], ◌∷◌, length, take, drop, sym, ap, refl, subst, append_assoc, Some, length-append}
use Rattle.std.proofs.lemmas.List.{append-nil, drop-drop, length-drop}
use Rattle.script_lines.specs.Lines.{HasNoNewline, lines, shortened}
use Rattle.script_lines.specs.Kept.{unfinished, shortened_within}
use Rattle.script_lines.specs.Reading.{SaysTheSame, SaysFirst, readings, read_line}
use Rattle.script_lines.specs.declared.line.Line.{Line}
use Rattle.std.proofs.Math.Seq.{drop-append-add}
use Rattle.script_lines.proofs.Cutting.{no_newline-take, no_newline-append}
use Rattle.script_lines.proofs.Shortening.{shortened_open, few_bytes, appended, shortened_again, says_the_same, readings_at, short_parts, within_at, within_open, within_most, unfinished_at, unfinished_open}

-- a line of the piece was kept
pub more_kept : (room : ℕ) (line rest piece out next start : List ℕ) → next ≡ (out ++ take room line) ++ 10 ∷ [] → piece ≡ line ++ 10 ∷ rest → HasNoNewline line → out ++ shortened_within room piece ≡ start → next ++ shortened_within 65537 rest ≡ start
more_kept room line rest piece out next start is whole plain sum =
    let kept = take room line in
    ap (λ text. text ++ shortened_within 65537 rest) is
    ∙ append_assoc (out ++ kept) (10 ∷ []) (shortened_within 65537 rest)
    ∙ append_assoc out kept (10 ∷ shortened_within 65537 rest)
    ∙ ap (λ others. out ++ (kept ++ 10 ∷ others)) (within_most (lines rest))
    ∙ ap (λ text. out ++ text) (sym (ap (shortened_within room) whole ∙ within_at room line rest plain))
    ∙ sum

-- what follows the last newline was kept
pub last_kept : (room : ℕ) (piece out next start : List ℕ) → next ≡ out ++ take room piece → HasNoNewline piece → out ++ shortened_within room piece ≡ start → next ≡ start
last_kept room piece out next start is plain sum = is ∙ ap (λ text. out ++ text) (sym (within_open room piece plain)) ∙ sum

-- behind a newline the same line is open
pub open_behind : (line rest bytes whole : List ℕ) → bytes ≡ line ++ 10 ∷ rest → HasNoNewline line → unfinished bytes ≡ unfinished whole → unfinished rest ≡ unfinished whole
open_behind line rest bytes whole is plain same = sym (ap unfinished is ∙ unfinished_at line rest plain) ∙ same

pub open_is_whole : (bytes whole : List ℕ) → HasNoNewline bytes → unfinished bytes ≡ unfinished whole → length bytes ≡ length (unfinished whole)
open_is_whole bytes whole plain same = ap length (sym (unfinished_open bytes plain) ∙ same)

-- ---- a piece behind a script

-- few bytes are kept as they are
pub fits_whole : (text piece now : List ℕ) → length text + length piece ≤ 65537 → now ≡ text ++ piece → now ≡ shortened (text ++ piece)
fits_whole text piece now few is = is ∙ sym (few_bytes (text ++ piece) (omega (arith, length-append text piece)))

-- of a piece no more is kept than is to be
pub fits_short : (text piece kept now : List ℕ) (open_length : ℕ) → shortened text ≡ text → open_length ≡ length (unfinished text) → kept ≡ shortened_within (65537 - open_length) piece → now ≡ text ++ kept → now ≡ shortened (text ++ piece)
fits_short text piece kept now open_length short open_is kept_is is =
    is
    ∙ ap (λ more. text ++ more) (kept_is ∙ ap (λ n. shortened_within (65537 - n) piece) open_is)
    ∙ appended text piece short

pub is_short : (text now : List ℕ) → now ≡ shortened text → shortened now ≡ now
is_short text now is = ap shortened is ∙ shortened_again text ∙ sym is

pub says_alike : (text now : List ℕ) → now ≡ shortened text → SaysTheSame now text
says_alike text now is more = ap (λ t. readings (t ++ more)) is ∙ says_the_same text more

-- ---- a line that is handed out

-- what is left behind the line
pub left_behind : (bytes line rest : List ℕ) (at : ℕ) → drop at bytes ≡ line ++ 10 ∷ rest → drop (at + (length line + 1)) bytes ≡ rest
left_behind bytes line rest at is =
    sym (drop-drop (length line + 1) at bytes) ∙ ap (drop (length line + 1)) is ∙ drop-append-add line (10 ∷ rest) 1

pub says_line : (whole line rest : List ℕ) (found : Line) → whole ≡ line ++ 10 ∷ rest → HasNoNewline line → found ≡ read_line (record { bytes = line; ended = true }) → SaysFirst whole (Some found) rest
says_line whole line rest found is plain said more =
    ap (λ t. readings (t ++ more)) is
    ∙ ap readings (append_assoc line (10 ∷ rest) more)
    ∙ readings_at line (rest ++ more) plain
    ∙ ap (λ f. f ∷ readings (rest ++ more)) (sym said)

pub short_behind : (whole line rest : List ℕ) → whole ≡ line ++ 10 ∷ rest → HasNoNewline line → shortened whole ≡ whole → shortened rest ≡ rest
short_behind whole line rest is plain short = (short_parts line rest plain (ap shortened (sym is) ∙ short ∙ is)).1

-- a line that is handed out stands within the bytes
pub within_left : (bytes line rest : List ℕ) (at : ℕ) → at ≤ length bytes → drop at bytes ≡ line ++ 10 ∷ rest → at + (length line + 1) ≤ length bytes
within_left bytes line rest at fits is = omega (arith, length-drop at bytes, ap length is, length-append line (10 ∷ rest))

-- without a newline in a script and in the piece behind it there is none in what is kept
pub no_newline_kept : (text piece now : List ℕ) → now ≡ shortened (text ++ piece) → HasNoNewline text → HasNoNewline piece → HasNoNewline now
no_newline_kept text piece now is plain also =
    let both = no_newline-append text piece plain also in
    let P : List ℕ → Type 0 = λ t. HasNoNewline t in
    subst P (sym (is ∙ shortened_open (text ++ piece) both)) (no_newline-take 65537 (text ++ piece) both)

pub not_both : (test : Bool) → test ≡ true → test ≡ false → ⊥
not_both true yes_it_is other = cc
not_both false yes_it_is other = cc
