-- The plain function that reads the piece at the front of a text.
use Rattle.std.specs.Prelude.{ℕ, ◌+◌, ◌-◌, ◌*◌, Bool, true, false, ◌&&◌, ◌||◌, if◌then◌else◌, ◌==◌, nat_lt, [], ◌∷◌, length, take, drop, slice_index, Option, Some, None, Result, Ok, Err}
use Rattle.elm_base.specs.declared.token.TokenKind.{TokenKind}
use Rattle.elm_base.specs.declared.token.TokenKind.TheVariants as kind
use Rattle.elm_base.specs.declared.fault.FaultKind.{FaultKind}
use Rattle.elm_base.specs.declared.fault.FaultKind.TheVariants as fault
use Rattle.layout_lexer.specs.declared.byte_class.Class.{Class}
use Rattle.layout_lexer.specs.declared.byte_class.Class.TheVariants as class
use Rattle.layout_lexer.specs.declared.byte_class.Run.TheVariants as over
use Rattle.layout_lexer.specs.declared.piece.Piece.{Piece}
use Rattle.layout_lexer.specs.Chars.{Text, class_of, is_in, is_letter, is_name_byte, past}
use Rattle.layout_lexer.specs.Marks.{max_name, max_int, opens, is_listed, words, symbol_runs, goes_on, is_escape}

abbrev pub Read : Type 0
Read = Result Piece FaultKind

abbrev pub blank : ℕ → Piece
blank n = record { kind = None; len = n }

abbrev pub token : TokenKind → ℕ → Piece
token k n = record { kind = Some k; len = n }

-- ---- comments that nest

-- where the comment ends that is open at this depth below the outermost; `second` says that the byte is the second of a mark
abbrev pub comment_from : ℕ → Bool → ℕ → Text → Option ℕ
comment_from depth second at [] = None
comment_from depth true at (b ∷ t) = comment_from depth false (at + 1) t
comment_from depth false at (b ∷ t) =
    if b == 123 && slice_index t 0 == 45 then comment_from (depth + 1) true (at + 1) t
    else (if b == 45 && slice_index t 0 == 125 then (if depth == 0 then Some (at + 2) else comment_from (depth - 1) true (at + 1) t)
    else comment_from depth false (at + 1) t)

abbrev pub comment_len : Text → Option ℕ
comment_len text = comment_from 0 false 2 (drop 2 text)

abbrev pub closed : Option ℕ → Read
closed None = Err fault.OpenComment
closed (Some n) = Ok (blank n)

abbrev pub comment : Text → Read
comment text = closed (comment_len text)

-- ---- names, labels, operators

abbrev pub name_kind : Bool → TokenKind
name_kind true = kind.Upper
name_kind false = kind.Lower

-- `upper` says that the part under way began with an upper-case letter
abbrev pub name_from : Bool → ℕ → Text → TokenKind × ℕ
name_from upper at [] = (name_kind upper, at)
name_from upper at (b ∷ t) =
    if is_name_byte b then name_from upper (at + 1) t
    else (if upper && b == 46 && is_letter (slice_index t 0) then name_from (is_in class.Upper (slice_index t 0)) (at + 1) t
    else (name_kind upper, at))

abbrev pub name_end : Text → TokenKind × ℕ
name_end text = name_from (is_in class.Upper (slice_index text 0)) 0 text

unfoldable pub name : Text → Read
name text =
    let n = name_end text in
    if nat_lt max_name n.1 then Err fault.TooLarge
    else Ok (token (if is_listed words (take n.1 text) then kind.Word else n.0) n.1)

abbrev pub label : Bool → Text → Read
label joined text =
    let end = past over.Name text 1 in
    if nat_lt (max_name + 1) end then Err fault.TooLarge else Ok (token (if joined then kind.Access else kind.FieldFunction) end)

abbrev pub run : Text → Read
run text =
    let end = past over.Operators text 0 in
    if nat_lt max_name end then Err fault.TooLarge
    else Ok (token (if is_listed symbol_runs (take end text) then kind.Symbol else kind.Operator) end)

unfoldable pub operator : Bool → Text → Read
operator joined text = if slice_index text 0 == 46 && nat_lt 1 (length text) && is_in class.Lower (slice_index text 1) then label joined text else run text

-- ---- numbers, texts, chars

abbrev pub fits_from : ℕ → Text → Bool
fits_from value [] = true
fits_from value (d ∷ ds) = let more = value * 10 + (d - 48) in if nat_lt max_int more then false else fits_from more ds

unfoldable pub number : Text → Read
number text =
    let len = past over.Digits text 0 in
    if goes_on (drop len text) then Err fault.Excluded
    else (if fits_from 0 (take len text) then Ok (token kind.Int len) else Err fault.IntTooWide)

abbrev pub open_or_bad : ℕ → FaultKind
open_or_bad b = if b == 10 then fault.OpenString else fault.BadChar

-- `escaped` says that a backslash stands before the byte
abbrev pub quoted_from : Bool → ℕ → Text → Result ℕ FaultKind
quoted_from escaped at [] = Err fault.OpenString
quoted_from true at (b ∷ t) = if is_escape b then quoted_from false (at + 1) t else Err (open_or_bad b)
quoted_from false at (b ∷ t) =
    if b == 34 then Ok (at + 1) else (if b == 10 then Err fault.OpenString else quoted_from (b == 92) (at + 1) t)

abbrev pub text_of : Result ℕ FaultKind → Read
text_of (Ok n) = Ok (token kind.Text n)
text_of (Err e) = Err e

unfoldable pub quoted_text : Text → Read
quoted_text text = if slice_index text 1 == 34 && slice_index text 2 == 34 then Err fault.Excluded else text_of (quoted_from false 1 (drop 1 text))

-- where the one char or escape ends that begins at place 1
abbrev pub char_end : Text → ℕ
char_end text = if slice_index text 1 == 92 then (if is_escape (slice_index text 2) then 3 else 2) else past over.Continuation text 2

unfoldable pub character : Text → Read
character text =
    if nat_lt (length text) 3 || slice_index text 1 == 39 || slice_index text 1 == 10 then Err fault.BadChar
    else (if slice_index text (char_end text) == 39 then Ok (token kind.Char (char_end text + 1)) else Err fault.BadChar)

-- ---- the piece

abbrev pub by_class : Class → Bool → Text → Read
by_class class.White joined text = Ok (blank 1)
by_class class.Lower joined text = name text
by_class class.Upper joined text = name text
by_class class.Digit joined text = number text
by_class class.Quote joined text = quoted_text text
by_class class.Apostrophe joined text = character text
by_class class.Symbol joined text = Ok (token kind.Symbol 1)
by_class class.Operator joined text = operator joined text
by_class class.Other joined text = Err fault.BadChar

unfoldable pub spelling : Bool → Text → Read
spelling joined text = by_class (class_of (slice_index text 0)) joined text

unfoldable pub piece : Bool → Text → Read
piece joined text =
    if opens 45 45 text then Ok (blank (past over.Line text 2))
    else (if opens 123 45 text then comment text else spelling joined text)
