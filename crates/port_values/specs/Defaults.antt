-- The value with which a port begins.
use Rattle.std.specs.Prelude.{ℕ, pos, false, List, []}
use Rattle.elm_base.specs.declared.event.PortType.{PortType}
use Rattle.elm_base.specs.declared.event.PortType.TheOpen as type
use Rattle.elm_base.specs.declared.event.PortType.TheFolds.{fold-PortType}
use Rattle.elm_base.specs.declared.event.PortValue.{PortValue}
use Rattle.elm_base.specs.declared.event.PortValue.TheVariants as value

abbrev pub default_step : type.PortType-F PortValue → PortValue
default_step type.Unit = value.Unit
default_step type.Int = value.Int (pos 0)
default_step type.Bool = value.Bool false
default_step type.Text = value.Text []
default_step (type.Maybe inner) = value.Nothing
default_step (type.List inner) = value.List []
default_step (type.Tuple parts) = value.Tuple parts
default_step (type.Fields fields) = value.Fields fields

-- What is least of a type: `()`, 0, False, the empty text, Nothing, the empty list, and of tuples and records
-- what is least of each part.
abbrev pub default : PortType → PortValue
default = fold-PortType PortValue default_step

-- a field with what is least of its type
abbrev pub default_field : List ℕ × PortType → List ℕ × PortValue
default_field (label, port) = (label, default port)
