-- What the code of the reader finds step by step.
use Rattle.std.specs.Prelude.{◌≡◌, ◌≢◌, ℕ, suc, ◌==◌, if◌then◌else◌, [], ◌∷◌, Option, Some, None, Result, Ok, Err}
use Rattle.std.specs.Option.{option_map}
use Rattle.elm_base.specs.declared.memory.Halt.{Halt}
use Rattle.elm_base.specs.declared.memory.Halt.TheVariants as halt
use Rattle.elm_base.specs.declared.event.PortType.{PortType, out-PortType, map-PortType}
use Rattle.elm_base.specs.declared.event.PortType.TheOpen as type
use Rattle.elm_base.specs.Letters.{is_name_byte}
use Rattle.port_values.specs.Leaves.{escape_of}
use Rattle.port_literals.specs.declared.value.BadValue.{BadValue}
use Rattle.port_literals.specs.declared.scan.Place.{Place}
use Rattle.port_literals.specs.declared.scan.Place.TheVariants as place
use Rattle.port_literals.specs.Parts.{Text, after, parts_at}
use Rattle.port_literals.specs.Reader.{Reader, read}

-- how many brackets are open
abbrev pub depth : Place → ℕ
depth (place.Open n) = n
depth (place.Quoted n) = n
depth (place.Escaped n) = n

-- how many bytes stand before the first comma that parts a text
abbrev pub comma : Place → Text → ℕ
comma at [] = 0
comma at (byte ∷ rest) = if parts_at at byte then 0 else suc (comma (after at byte) rest)

abbrev pub escape_and : Text → Option (ℕ × Text)
escape_and [] = None
escape_and (byte ∷ rest) = option_map (λ read. (read, rest)) (escape_of byte)

-- the byte for which a text's next one or two stand, and what follows
abbrev pub next_byte : Text → Option (ℕ × Text)
next_byte [] = None
next_byte (byte ∷ rest) =
    if byte == 92 then escape_and rest else (if byte == 34 then None else (if byte == 10 then None else Some (byte, rest)))

-- the readers of what stands in a type
abbrev pub readers : PortType → type.PortType-F Reader
readers port = map-PortType PortType Reader read (out-PortType port)

-- what a reading ensures: the outcome, unless memory fails. The value is seen by `view`.
abbrev pub ReadsAs : {A B : Type 0} → (B → A) → Option A → Result B (Halt BadValue) → Type 0
ReadsAs view outcome (Ok given) = outcome ≡ Some (view given)
ReadsAs view outcome (Err cause) = cause ≢ halt.NoMemory → outcome ≡ None

abbrev pub Reads : {A : Type 0} → Option A → Result A (Halt BadValue) → Type 0
Reads outcome result = ReadsAs (λ given. given) outcome result

-- with how many bytes of a name a text begins
abbrev pub name_len : Text → ℕ
name_len [] = 0
name_len (byte ∷ rest) = if is_name_byte byte then suc (name_len rest) else 0

-- a field with the reader of its type
abbrev pub reader_field : Text × PortType → Text × Reader
reader_field port = (port.0, read port.1)
