-- Names, types and values of inputs are UTF-8.
use Rattle.std.proofs.Common.{◌≡◌, ◌&&◌, ℕ, IsUtf8, List, length, nat_le, subst}
use Rattle.elm_base.specs.declared.event.PortType.{PortType}
use Rattle.elm_base.specs.declared.event.PortValue.{PortValue}
use Rattle.elm_base.specs.declared.event.Event.{Event}
use Rattle.elm_base.specs.declared.event.Event.TheVariants as event
use Rattle.frame_text.specs.TypeText.{type_text}
use Rattle.port_values.specs.ValueText.{value_text}
use Rattle.port_texts.specs.PortTexts.{GivenIsPort}
use Rattle.port_texts.specs.Given.{max_levels}
use Rattle.session_file.specs.Written.{IsNamed, IsRecorded}
use Rattle.session_file.proofs.Describing.{type_text_is}
use Rattle.session_file.proofs.Letters.{and_right, low_text, input_low}
use Rattle.session_file.proofs.Printing.{value_text_is}

pub name_is_text : (input : List ℕ × PortType) → IsNamed input → IsUtf8 input.0
name_is_text input h = low_text input.0 (input_low input.0 (and_right (nat_le 1 (length input.0) && nat_le (length input.0) 255) _ h.0))

pub type_is_text : GivenIsPort → (input : List ℕ × PortType) → IsNamed input → IsUtf8 (type_text input.1)
type_is_text ports input h = type_text_is input.1 (ports input.1 max_levels h.1.given)

pub value_is_text : GivenIsPort → (e : Event) (name : List ℕ) (port : PortType) (value : PortValue) → e ≡ event.Input name port value → IsRecorded e → IsUtf8 (value_text value)
value_is_text ports e name port value is h = go (subst IsRecorded is h) where
  go : IsRecorded (event.Input name port value) → IsUtf8 (value_text value)
  go k = value_text_is port (ports port max_levels k.0.1.given) value k.1
