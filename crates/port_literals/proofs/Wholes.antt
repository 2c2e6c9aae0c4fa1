-- What the reader's calls give, in the words of literals.
use Rattle.std.proofs.Common.{◌≡◌, ℕ, IsTrue, List, map, Some, None, Result, Ok, Err, sym, ◌∙◌, ap}
use Rattle.std.specs.Option.{option_map}
use Rattle.elm_base.specs.declared.memory.Halt.{Halt}
use Rattle.elm_base.specs.declared.event.PortType.{PortType, out-PortType, map-PortType}
use Rattle.elm_base.specs.declared.event.PortType.TheVariants as port_type
use Rattle.elm_base.specs.declared.event.PortValue.{PortValue}
use Rattle.elm_base.specs.declared.event.PortValue.TheVariants as made
use Rattle.port_literals.specs.declared.value.BadValue.{BadValue}
use Rattle.port_literals.specs.Laws as law
use Rattle.port_literals.specs.Ports.{is_port}
use Rattle.port_literals.specs.Parts.{Text}
use Rattle.port_literals.specs.Reader.{Reader, between, read_all, whole_fields, owned, form, read}
use Rattle.port_literals.specs.Steps.{readers, reader_field, Reads}
use Rattle.port_literals.proofs.Complete.{reads}
use Rattle.port_literals.proofs.Sound.{sound}

pub tuple_whole : (port : PortType) (ports : List PortType) → port ≡ port_type.Tuple ports → (room left : ℕ) (text inside : Text)
    → read port room text ≡ form (readers port) left inside → read port room text ≡ option_map made.Tuple (owned (read_all (map read ports)) left (between 40 41 inside))
tuple_whole port ports is room left text inside h =
    h ∙ ap (λ layer. form (map-PortType PortType Reader read layer) left inside) (ap out-PortType is ∙ port_type.outs-Tuple ports)

pub record_whole : (port : PortType) (ports : List (Text × PortType)) → port ≡ port_type.Fields ports → (room left : ℕ) (text inside : Text)
    → read port room text ≡ form (readers port) left inside → read port room text ≡ option_map made.Fields (owned (whole_fields (map reader_field ports)) left (between 123 125 inside))
record_whole port ports is room left text inside h =
    h ∙ ap (λ layer. form (map-PortType PortType Reader read layer) left inside) (ap out-PortType is ∙ port_type.outs-Fields ports)

pub read_rightly : (port : PortType) (text : Text) (answer : Result PortValue (Halt BadValue)) → IsTrue (is_port port) → Reads (read port 64 text) answer → law.Reads port text answer
read_rightly port text (Ok given) p h = sound port 64 text given p h
read_rightly port text (Err cause) p h = tt

no_both : (given : PortValue) → None ≡ Some given → ⊥
no_both given h = cc

pub refused_rightly : (port : PortType) (text : Text) (answer : Result PortValue (Halt BadValue)) → IsTrue (is_port port) → Reads (read port 64 text) answer → law.Refuses port text answer
refused_rightly port text (Ok given) p h = tt
refused_rightly port text (Err cause) p h = λ other given literal. no_both given (sym (h other) ∙ reads 64 port given text literal p)
