-- How large the type of a port may be.
use Rattle.std.specs.Prelude.{ℕ, ◌-◌, ◌==◌, Bool, true, false, ◌&&◌, not, nat_le, List, length, map}
use Rattle.std.specs.List.{list_all}
use Rattle.elm_base.specs.declared.event.PortType.{PortType}
use Rattle.elm_base.specs.declared.event.PortType.TheOpen as type
use Rattle.elm_base.specs.declared.event.PortType.TheFolds.{fold-PortType}
use Rattle.frame_text.specs.TypeText.{type_text}

-- it may have so many levels, which is to nest at most 32 deep, and so many bytes of text
abbrev pub max_levels : ℕ
max_levels = 33

abbrev pub max_text : ℕ
max_text = 4096

-- whether a type has at most so many levels
abbrev pub Fits : Type 0
Fits = ℕ → Bool

abbrev pub some_level : ℕ → Bool
some_level n = not (n == 0)

-- one level more than a part, or than each of several
abbrev pub over : ℕ → Fits → Bool
over n part = some_level n && part (n - 1)

abbrev pub over_all : ℕ → List Fits → Bool
over_all n parts = some_level n && list_all (λ part. part (n - 1)) parts

abbrev pub over_fields : ℕ → List (List ℕ × Fits) → Bool
over_fields n fields = some_level n && list_all (λ field. field.1 (n - 1)) fields

abbrev pub fits_step : type.PortType-F Fits → Fits
fits_step type.Unit n = some_level n
fits_step type.Int n = some_level n
fits_step type.Bool n = some_level n
fits_step type.Text n = some_level n
fits_step (type.Maybe inner) n = over n inner
fits_step (type.List inner) n = over n inner
fits_step (type.Tuple parts) n = over_all n parts
fits_step (type.Fields fields) n = over_fields n fields

-- A type without parts has one level, and any other one more than the deepest of its parts.
abbrev pub fits : PortType → Fits
fits = fold-PortType Fits fits_step

abbrev pub is_within : PortType → Bool
is_within port = fits port max_levels && nat_le (length (type_text port)) max_text

-- ---- for private contracts

abbrev pub all_fit : ℕ → List PortType → Bool
all_fit n parts = list_all (λ part. part n) (map fits parts)

abbrev pub fits_field : List ℕ × PortType → List ℕ × Fits
fits_field (label, port) = (label, fits port)

abbrev pub fields_fit : ℕ → List (List ℕ × PortType) → Bool
fields_fit n fields = list_all (λ field. field.1 n) (map fits_field fields)

abbrev pub text_len : PortType → ℕ
text_len port = length (type_text port)
