-- A text cut into parts by the commas outside brackets and texts.
use Rattle.std.specs.Prelude.{ℕ, zero, suc, Bool, false, ◌==◌, ◌||◌, if◌then◌else◌, List, [], ◌∷◌, map}
use Rattle.elm_base.specs.Spaces.{trim_start, trim_end}
use Rattle.port_literals.specs.declared.scan.Place.{Place}
use Rattle.port_literals.specs.declared.scan.Place.TheVariants as place

abbrev pub Text : Type 0
Text = List ℕ

abbrev pub opens : ℕ → Bool
opens byte = byte == 40 || byte == 91 || byte == 123

abbrev pub closes : ℕ → Bool
closes byte = byte == 41 || byte == 93 || byte == 125

abbrev pub fewer : ℕ → ℕ
fewer zero = zero
fewer (suc n) = n

-- the place behind a byte
abbrev pub after : Place → ℕ → Place
after (place.Open depth) byte =
    if byte == 34 then place.Quoted depth
    else (if opens byte then place.Open (suc depth)
    else (if closes byte then place.Open (fewer depth) else place.Open depth))
after (place.Quoted depth) byte =
    if byte == 34 then place.Open depth else (if byte == 92 then place.Escaped depth else place.Quoted depth)
after (place.Escaped depth) byte = place.Quoted depth

-- whether a byte at this place is a comma that parts the text
abbrev pub parts_at : Place → ℕ → Bool
parts_at (place.Open zero) byte = byte == 44
parts_at _ byte = false

-- a byte in front of the first text
abbrev pub put : ℕ → List Text → List Text
put byte [] = (byte ∷ []) ∷ []
put byte (first ∷ others) = (byte ∷ first) ∷ others

-- a text cut at such commas: one part more than there are commas
abbrev pub cuts : Place → Text → List Text
cuts at [] = [] ∷ []
cuts at (byte ∷ rest) = if parts_at at byte then [] ∷ cuts (place.Open 0) rest else put byte (cuts (after at byte) rest)

abbrev pub trim : Text → Text
trim text = trim_end (trim_start text)

-- the parts of a text without the spaces about them, and none of a text without any byte but spaces
abbrev pub parts_unless : Text → Text → List Text
parts_unless [] text = []
parts_unless (byte ∷ rest) text = map trim (cuts (place.Open 0) text)

abbrev pub parts_of : Text → List Text
parts_of text = parts_unless (trim_start text) text
