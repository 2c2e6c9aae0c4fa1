-- The names of inputs, files and projects.
use Rattle.std.specs.Prelude.{◌==◌, ◌&&◌, ◌||◌, ℕ, Bool, not, nat_le, List, length, slice_index, codes}
use Rattle.std.specs.List.{list_all, slice_split}
use Rattle.std.specs.Str.{bytes_eq}
use Rattle.elm_base.specs.Letters.{is_letter, is_digit, is_name_byte}

-- the name of an input: 1 to 255 letters, digits, underscores, apostrophes and points
abbrev pub is_input_name : List ℕ → Bool
is_input_name name =
    nat_le 1 (length name) && nat_le (length name) 255 && list_all (λ byte. is_name_byte byte || byte == 46) name

-- the parts of a name between slashes
abbrev pub segments : List ℕ → List (List ℕ)
segments name = slice_split (λ byte. byte == 47) name

-- letters, digits, the underscore, the dash and the point
abbrev pub is_segment_byte : ℕ → Bool
is_segment_byte byte = is_letter byte || is_digit byte || byte == 95 || byte == 45 || byte == 46

-- one or two points: this folder, or the one above it
abbrev pub is_dots : List ℕ → Bool
is_dots segment = bytes_eq segment (codes ".") || bytes_eq segment (codes "..")

-- a part of a name: not empty, of these bytes, without a dash in front, and not points alone
abbrev pub is_segment : List ℕ → Bool
is_segment segment =
    nat_le 1 (length segment) && list_all is_segment_byte segment
    && not (slice_index segment 0 == 45) && not (is_dots segment)

-- The name of a file or a folder: at most 255 bytes, parts with single slashes between them.
abbrev pub is_file_name : List ℕ → Bool
is_file_name name = nat_le (length name) 255 && list_all is_segment (segments name)
