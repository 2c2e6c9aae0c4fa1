-- Forms beside near misses.
use Rattle.std.specs.Prelude.{◌≡◌, ℕ, [], ◌∷◌, codes, Some, None}
use Rattle.serde_json.specs.Data.{Data, number, unsigned, string, array, object, item, no_items, Members, member, no_members}
use Rattle.session_form.specs.Form.{sheet, delivery, input, named}
use Rattle.session_form.specs.Reader.{sheet_in, place_in}

-- a sheet with one event and one input, whose members behind the inputs are these
abbrev pub click_with : Data → Members → Data
click_with format behind =
    object (member (codes "cursor") (number (unsigned 1))
    (member (codes "events") (array (item (input 0 (codes "()")) no_items))
    (member (codes "format") format
    (member (codes "inputs") (array (item (named (codes "Mouse.clicks") (codes "()")) no_items)) behind))))

abbrev pub version : ℕ → Members → Members
version n behind = member (codes "version") (number (unsigned n)) behind

abbrev pub own_format : Data
own_format = string (codes "reactor-session")

-- a sheet; version 2; another format; a key that is none of a session's; no version; a list and a text
abbrev pub Sheets : Type 0
Sheets =
    (sheet_in (click_with own_format (version 1 no_members)) ≡ Some (1, (item (input 0 (codes "()")) no_items, item (named (codes "Mouse.clicks") (codes "()")) no_items)))
    × (click_with own_format (version 1 no_members) ≡ sheet 1 (input 0 (codes "()") ∷ []) (named (codes "Mouse.clicks") (codes "()") ∷ []))
    × (sheet_in (click_with own_format (version 2 no_members)) ≡ None)
    × (sheet_in (click_with (string (codes "session")) (version 1 no_members)) ≡ None)
    × (sheet_in (click_with own_format (version 1 (member (codes "x") (number (unsigned 1)) no_members))) ≡ None)
    × (sheet_in (click_with own_format no_members) ≡ None)
    × (sheet_in (array no_items) ≡ None)
    × (sheet_in own_format ≡ None)

-- an input event names a place; a delivery, a number below 0 and a list of three name none
abbrev pub Places : Type 0
Places =
    (place_in (input 7 (codes "()")) ≡ Some 7)
    × (place_in (delivery 7) ≡ None)
    × (place_in (array (item (number (unsigned 7)) (item (string (codes "()")) (item (string []) no_items)))) ≡ None)
    × (place_in (named (codes "7") (codes "()")) ≡ None)
    × (place_in (array no_items) ≡ None)
