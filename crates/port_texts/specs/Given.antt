-- The types that ports of programs have.
use Rattle.std.specs.Prelude.{ℕ, ◌-◌, Bool, true, false, ◌&&◌, not, ◌==◌, nat_le, List, [], ◌∷◌, length, map, codes}
use Rattle.std.specs.List.{list_all, list_any}
use Rattle.std.specs.Str.{bytes_eq}
use Rattle.std.specs.Cmp.Lexicographic.{slice_cmp}
use Rattle.std.specs.Ordering.{nat_cmp, is_lt}
use Rattle.elm_base.specs.Letters.{is_name_byte}
use Rattle.elm_base.specs.declared.event.PortType.{PortType}
use Rattle.elm_base.specs.declared.event.PortType.TheOpen as type
use Rattle.elm_base.specs.declared.event.PortType.TheFolds.{fold-PortType}

-- ---- labels

-- the words of the language
abbrev pub words : List (List ℕ)
words =
    codes "module" ∷ codes "where" ∷ codes "import" ∷ codes "as" ∷ codes "exposing" ∷ codes "type" ∷ codes "alias" ∷ codes "port" ∷ codes "if"
    ∷ codes "then" ∷ codes "else" ∷ codes "let" ∷ codes "in" ∷ codes "case" ∷ codes "of" ∷ codes "infixl" ∷ codes "infixr" ∷ codes "infix" ∷ []

abbrev pub is_among : List (List ℕ) → List ℕ → Bool
is_among texts text = list_any (λ one. bytes_eq text one) texts

abbrev pub is_small : ℕ → Bool
is_small byte = nat_le 97 byte && nat_le byte 122

-- a lower-case letter, and bytes with which names go on
abbrev pub is_name : List ℕ → Bool
is_name [] = false
is_name (first ∷ others) = is_small first && list_all is_name_byte others

-- a name of at most 255 bytes, and no word
abbrev pub is_label : List ℕ → Bool
is_label label = is_name label && nat_le (length label) 255 && not (is_among words label)

-- in the order of bytes
abbrev pub is_before : List ℕ → List ℕ → Bool
is_before label other = is_lt (slice_cmp nat_cmp label other)

-- the label comes before those of all these fields
abbrev pub is_first : {A : Type 0} → List ℕ → List (List ℕ × A) → Bool
is_first label fields = list_all (λ field. is_before label field.0) fields

-- labels, in the order of their bytes
abbrev pub are_labels : {A : Type 0} → List (List ℕ × A) → Bool
are_labels [] = true
are_labels (field ∷ fields) = is_label field.0 && is_first field.0 fields && are_labels fields

-- ---- types

-- as many levels as a type that nests 32 deep
abbrev pub max_levels : ℕ
max_levels = 33

-- the most bytes of a type's text
abbrev pub max_text : ℕ
max_text = 4096

-- from the number of levels that a type may have
abbrev pub Test : Type 0
Test = ℕ → Bool

abbrev pub some_level : ℕ → Bool
some_level n = not (n == 0)

-- two to nine parts
abbrev pub are_few : ℕ → Bool
are_few count = nat_le 2 count && nat_le count 9

abbrev pub all_pass : List Test → ℕ → Bool
all_pass tests n = list_all (λ test. test n) tests

abbrev pub fields_pass : List (List ℕ × Test) → ℕ → Bool
fields_pass fields n = list_all (λ field. field.1 n) fields

abbrev pub given_step : type.PortType-F Test → Test
given_step type.Unit n = some_level n
given_step type.Int n = some_level n
given_step type.Bool n = some_level n
given_step type.Text n = some_level n
given_step (type.Maybe inner) n = some_level n && inner (n - 1)
given_step (type.List inner) n = some_level n && inner (n - 1)
given_step (type.Tuple parts) n = some_level n && (are_few (length parts) && all_pass parts (n - 1))
given_step (type.Fields fields) n =
    some_level n && (are_labels fields && fields_pass fields (n - 1))

-- A port of a program may have the type, its text aside, where at most so many levels stand in one another: tuples
-- have two to nine parts, and records have labels in the order of their bytes.
abbrev pub is_given : PortType → Test
is_given = fold-PortType Test given_step

-- ---- for private contracts

abbrev pub all_given : ℕ → List PortType → Bool
all_given n parts = all_pass (map is_given parts) n

abbrev pub given_field : List ℕ × PortType → List ℕ × Test
given_field field = (field.0, is_given field.1)

abbrev pub fields_given : ℕ → List (List ℕ × PortType) → Bool
fields_given n fields = fields_pass (map given_field fields) n

abbrev pub tuple_given : ℕ → List PortType → Bool
tuple_given n parts = are_few (length parts) && all_given n parts

abbrev pub record_given : ℕ → List (List ℕ × PortType) → Bool
record_given n fields = are_labels fields && fields_given n fields
