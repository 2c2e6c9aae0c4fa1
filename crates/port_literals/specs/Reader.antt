-- The value of a literal, as a function of its text.
use Rattle.std.specs.Prelude.{ℕ, zero, suc, Bool, true, false, ◌==◌, if◌then◌else◌, List, [], ◌∷◌, length, codes, Option, Some, None}
use Rattle.std.specs.Option.{option_map}
use Rattle.std.specs.Str.{bytes_eq}
use Rattle.elm_base.specs.Letters.{is_name_byte}
use Rattle.elm_base.specs.Spaces.{trim_start}
use Rattle.elm_base.specs.declared.event.PortType.{PortType}
use Rattle.elm_base.specs.declared.event.PortType.TheOpen as type
use Rattle.elm_base.specs.declared.event.PortType.TheFolds.{fold-PortType}
use Rattle.elm_base.specs.declared.event.PortValue.{PortValue}
use Rattle.elm_base.specs.declared.event.PortValue.TheVariants as value
use Rattle.port_values.specs.Literals.{ends_word}
use Rattle.port_values.specs.Leaves.{int_of, is_unit, truth_of, text_of}
use Rattle.port_literals.specs.Ports.{are_several}
use Rattle.port_literals.specs.Parts.{Text, fewer, trim, parts_of}

-- from the number of brackets that may be opened, and a text
abbrev pub Reader : Type 0
Reader = ℕ → Text → Option PortValue

-- both, or nothing
abbrev pub put_first : {A : Type 0} → Option A → Option (List A) → Option (List A)
put_first (Some first) (Some others) = Some (first ∷ others)
put_first _ _ = None

-- ---- brackets

-- the text before its last byte, where that is this one
abbrev pub before_last : ℕ → Text → Option Text
before_last last [] = None
before_last last (byte ∷ []) = if byte == last then Some [] else None
before_last last (byte ∷ next ∷ rest) = option_map (λ front. byte ∷ front) (before_last last (next ∷ rest))

-- the text between a first byte and a last one
abbrev pub between : ℕ → ℕ → Text → Option Text
between first last [] = None
between first last (byte ∷ rest) = if byte == first then before_last last rest else None

-- whether brackets with this between them are the type's own: they hold nothing or several parts
abbrev pub are_own : {A : Type 0} → type.PortType-F A → List Text → Bool
are_own type.Unit [] = true
are_own (type.Tuple parts) texts = are_several texts
are_own _ texts = false

abbrev pub bracketed_by : {A : Type 0} → type.PortType-F A → Option Text → Option Text
bracketed_by layer None = None
bracketed_by layer (Some inside) = if are_own layer (parts_of inside) then None else Some (trim inside)

-- what stands in the brackets round a value, where there are such
abbrev pub bracketed : {A : Type 0} → type.PortType-F A → Text → Option Text
bracketed layer text = bracketed_by layer (between 40 41 text)

-- ---- the forms

-- behind this text
abbrev pub behind : Text → Text → Option Text
behind [] text = Some text
behind (byte ∷ bytes) [] = None
behind (byte ∷ bytes) (first ∷ rest) = if byte == first then behind bytes rest else None

abbrev pub just_of : Reader → ℕ → Option Text → Option PortValue
just_of inner room None = None
just_of inner room (Some rest) = if ends_word rest then option_map value.Just (inner room (trim_start rest)) else None

abbrev pub maybe_of : Reader → ℕ → Text → Option PortValue
maybe_of inner room text =
    if bytes_eq text (codes "Nothing") then Some value.Nothing else just_of inner room (behind (codes "Just") text)

-- each text by the one reader
abbrev pub read_each : Reader → ℕ → List Text → Option (List PortValue)
read_each reader room [] = Some []
read_each reader room (text ∷ texts) = put_first (reader room text) (read_each reader room texts)

-- as many texts as readers, each by its own
abbrev pub read_all : List Reader → ℕ → List Text → Option (List PortValue)
read_all [] room [] = Some []
read_all (reader ∷ readers) room (text ∷ texts) = put_first (reader room text) (read_all readers room texts)
read_all _ room _ = None

-- the name with which a text begins, and what follows it
abbrev pub name_and_rest : Text → Text × Text
name_and_rest [] = ([], [])
name_and_rest (byte ∷ rest) =
    if is_name_byte byte then (byte ∷ (name_and_rest rest).0, (name_and_rest rest).1) else ([], byte ∷ rest)

-- behind an equals sign and spaces
abbrev pub behind_equals : Text → Option Text
behind_equals [] = None
behind_equals (byte ∷ rest) = if byte == 61 then Some (trim_start rest) else None

-- the text of the value, where a field has this label
abbrev pub field_of : Text → Text → Option Text
field_of label text =
    if bytes_eq label (name_and_rest text).0 then behind_equals (trim_start (name_and_rest text).1) else None

abbrev pub first_of_two : Option Text → Option Text → Option Text
first_of_two (Some text) other = Some text
first_of_two None other = other

-- the text of the value at this label
abbrev pub at_label : Text → List Text → Option Text
at_label label [] = None
at_label label (text ∷ texts) = first_of_two (field_of label text) (at_label label texts)

abbrev pub read_some : Reader → ℕ → Option Text → Option PortValue
read_some reader room None = None
read_some reader room (Some text) = reader room text

abbrev pub put_field : Text → Option PortValue → Option (List (Text × PortValue)) → Option (List (Text × PortValue))
put_field label (Some given) (Some others) = Some ((label, given) ∷ others)
put_field label _ _ = None

-- each field by its own reader, from the text at its label
abbrev pub read_fields : List (Text × Reader) → ℕ → List Text → Option (List (Text × PortValue))
read_fields [] room texts = Some []
read_fields (field ∷ fields) room texts =
    put_field field.0 (read_some field.1 room (at_label field.0 texts)) (read_fields fields room texts)

-- as many texts as fields
abbrev pub whole_fields : List (Text × Reader) → ℕ → List Text → Option (List (Text × PortValue))
whole_fields fields room texts = if length fields == length texts then read_fields fields room texts else None

abbrev pub then_read : {A : Type 0} → Option (List Text) → (List Text → Option A) → Option A
then_read None read = None
then_read (Some texts) read = read texts

-- the parts between two bytes, read
abbrev pub read_parts : {A : Type 0} → (List Text → Option A) → Option Text → Option A
read_parts read found = then_read (option_map parts_of found) read

-- the parts between brackets of the type's own, where one more may be opened
abbrev pub own_parts : ℕ → Option Text → Option (List Text)
own_parts zero found = None
own_parts (suc room) found = option_map parts_of found

abbrev pub owned : {A : Type 0} → (ℕ → List Text → Option A) → ℕ → Option Text → Option A
owned read room found = then_read (own_parts room found) (read (fewer room))

abbrev pub unit_of : ℕ → Text → Option PortValue
unit_of zero text = None
unit_of (suc room) text = if is_unit text then Some value.Unit else None

-- in no brackets but the type's own
abbrev pub form : type.PortType-F Reader → Reader
form type.Unit room text = unit_of room text
form type.Int room text = option_map value.Int (int_of text)
form type.Bool room text = option_map value.Bool (truth_of text)
form type.Text room text = option_map value.Text (text_of text)
form (type.Maybe inner) room text = maybe_of inner room text
form (type.List inner) room text = option_map value.List (owned (read_each inner) room (between 91 93 text))
form (type.Tuple parts) room text = option_map value.Tuple (owned (read_all parts) room (between 40 41 text))
form (type.Fields fields) room text = option_map value.Fields (owned (whole_fields fields) room (between 123 125 text))

abbrev pub within : Option Text → (Text → Option PortValue) → Option PortValue → Option PortValue
within (Some inside) read other = read inside
within None read other = other

-- brackets round a value are read first, and each opens one
abbrev pub read_step : type.PortType-F Reader → Reader
read_step layer zero text = form layer zero text
read_step layer (suc room) text =
    within (bracketed layer text) (λ inside. read_step layer room inside) (form layer (suc room) text)

-- The value of a literal of the type, where at most so many brackets are open at once.
abbrev pub read : PortType → Reader
read = fold-PortType Reader read_step
