-- What is printed of the type of a program's port is UTF-8.
use Rattle.std.proofs.Common.{◌≡◌, ℕ, Bool, true, false, nat_lt, ◌&&◌, IsTrue, IsUtf8, if◌then◌else◌, List, [], ◌∷◌, ◌++◌, map, codes, refl, sym, ◌∙◌, subst}
use Rattle.std.specs.List.{list_all}
use Rattle.std.proofs.lemmas.Str.{IsUtf8-append, IsUtf8-nil}
use Rattle.elm_base.specs.declared.event.PortType.{PortType, map-PortType, roll-PortType}
use Rattle.elm_base.specs.declared.event.PortType.TheOpen as type
use Rattle.elm_base.specs.declared.event.PortType.TheFolds.{fold-roll-PortType, ind-PortType}
use Rattle.frame_text.specs.TypeText.{Described, argument, parts, other_parts, fields, field, other_fields, type_step, described, described_field, type_text}
use Rattle.port_literals.specs.Ports.{is_label, is_new, are_labels, are_several, port_step, is_port}
use Rattle.session_file.proofs.Letters.{and_left, and_right, low_text, name_low}

abbrev IsText : PortType → Type 0
IsText port = IsTrue (is_port port) → IsUtf8 (type_text port)

abbrev Part : Type 0
Part = (port : PortType) × IsText port

abbrev port_of : Part → PortType
port_of y = y.0

abbrev ports : type.PortType-F Part → type.PortType-F PortType
ports y = map-PortType Part PortType port_of y

abbrev Good : Described → Type 0
Good p = IsUtf8 p.text

abbrev AllGood : List Described → Type 0
AllGood [] = Unit {0}
AllGood (p ∷ ps) = Good p × AllGood ps

abbrev FieldsGood : List (List ℕ × Described) → Type 0
FieldsGood [] = Unit {0}
FieldsGood (f ∷ fs) = IsUtf8 f.0 × Good f.1 × FieldsGood fs

low : (bs : List ℕ) → list_all (λ byte. nat_lt byte 128) bs ≡ true → (rest : List ℕ) → IsUtf8 rest → IsUtf8 (bs ++ rest)
low bs h rest is = IsUtf8-append bs rest (low_text bs h) is

others_good : (ps : List Described) → AllGood ps → IsUtf8 (other_parts ps)
others_good [] h = IsUtf8-nil
others_good (p ∷ ps) h = IsUtf8-append (codes "," ++ p.text) (other_parts ps) (low (codes ",") refl p.text h.0) (others_good ps h.1)

parts_good : (ps : List Described) → AllGood ps → IsUtf8 (parts ps)
parts_good [] h = IsUtf8-nil
parts_good (p ∷ ps) h = IsUtf8-append p.text (other_parts ps) h.0 (others_good ps h.1)

field_good : (f : List ℕ × Described) → IsUtf8 f.0 → Good f.1 → IsUtf8 (field f)
field_good (label, p) h k = IsUtf8-append (label ++ codes " : ") p.text (IsUtf8-append label (codes " : ") h (low_text (codes " : ") refl)) k

other_fields_good : (fs : List (List ℕ × Described)) → FieldsGood fs → IsUtf8 (other_fields fs)
other_fields_good [] h = IsUtf8-nil
other_fields_good (f ∷ fs) h =
    IsUtf8-append (codes ", " ++ field f) (other_fields fs) (low (codes ", ") refl (field f) (field_good f h.0 h.1)) (other_fields_good fs h.2)

fields_good : (fs : List (List ℕ × Described)) → FieldsGood fs → IsUtf8 (fields fs)
fields_good [] h = low_text (codes "{}") refl
fields_good (f ∷ fs) h =
    low (codes "{ ") refl ((field f ++ other_fields fs) ++ codes " }")
    (IsUtf8-append (field f ++ other_fields fs) (codes " }") (IsUtf8-append (field f) (other_fields fs) (field_good f h.0 h.1) (other_fields_good fs h.2)) (low_text (codes " }") refl))

all_good : (ys : List Part) → list_all (λ part. part) (map is_port (map port_of ys)) ≡ true → AllGood (map described (map port_of ys))
all_good [] is = tt
all_good (y ∷ ys) is = (y.1 (and_left (is_port y.0) _ is), all_good ys (and_right (is_port y.0) _ is))

abbrev Field : Type 0
Field = List ℕ × Part

abbrev port_field : Field → List ℕ × PortType
port_field y = (y.0, y.1.0)

abbrev pass_field : List ℕ × PortType → List ℕ × Bool
pass_field f = (f.0, is_port f.1)

label_good : (label : List ℕ) → is_label label ≡ true → IsUtf8 label
label_good [] h = IsUtf8-nil
label_good (byte ∷ rest) h = low_text (byte ∷ rest) (name_low (byte ∷ rest) h)

abbrev passed : List Field → List (List ℕ × Bool)
passed ys = map pass_field (map port_field ys)

record_good : (ys : List Field) → are_labels (passed ys) ≡ true → list_all (λ (f : List ℕ × Bool). f.1) (passed ys) ≡ true → FieldsGood (map described_field (map port_field ys))
record_good [] names is = tt
record_good (y ∷ ys) names is =
    let own = and_left (is_label y.0) _ (and_left (is_label y.0 && is_new y.0 (passed ys)) _ names) in (
      label_good y.0 own,
      y.1.1 (and_left (is_port y.1.0) _ is),
      record_good ys (and_right (is_label y.0 && is_new y.0 (passed ys)) _ names) (and_right (is_port y.1.0) _ is),
    )

argument_good : (p : Described) → Good p → IsUtf8 (argument p)
argument_good p h = go p.takes_brackets where
  go : (b : Bool) → IsUtf8 (if b then codes "(" ++ p.text ++ codes ")" else p.text)
  go true = low (codes "(") refl (p.text ++ codes ")") (IsUtf8-append p.text (codes ")") h (low_text (codes ")") refl))
  go false = h

abbrev Layer : Type 0
Layer = type.PortType-F Part

abbrev Ports : Layer → Type 0
Ports y = port_step (map-PortType PortType Bool is_port (ports y)) ≡ true

layer_good : (y : Layer) → Ports y → Good (type_step (map-PortType PortType Described described (ports y)))
layer_good type.Unit is = low_text (codes "()") refl
layer_good type.Int is = low_text (codes "Int") refl
layer_good type.Bool is = low_text (codes "Bool") refl
layer_good type.Text is = low_text (codes "String") refl
layer_good (type.Maybe y) is = low (codes "Maybe ") refl (argument (described y.0)) (argument_good (described y.0) (y.1 is))
layer_good (type.List y) is = low (codes "List ") refl (argument (described y.0)) (argument_good (described y.0) (y.1 is))
layer_good (type.Tuple ys) is =
    low (codes "(") refl (parts (map described (map port_of ys)) ++ codes ")")
    (IsUtf8-append (parts (map described (map port_of ys))) (codes ")")
    (parts_good (map described (map port_of ys)) (all_good ys (and_right (are_several (map is_port (map port_of ys))) _ is))) (low_text (codes ")") refl))
layer_good (type.Fields ys) is =
    fields_good (map described_field (map port_field ys)) (record_good ys (and_left (are_labels (passed ys)) _ is) (and_right (are_labels (passed ys)) _ is))

layer_text : (y : Layer) → IsText (roll-PortType (ports y))
layer_text y is =
    subst (λ (p : Described). IsUtf8 p.text) (sym (fold-roll-PortType Described type_step (ports y)))
    (layer_good y (sym (fold-roll-PortType Bool port_step (ports y)) ∙ is))

pub type_text_is : (port : PortType) → IsTrue (is_port port) → IsUtf8 (type_text port)
type_text_is = ind-PortType IsText (λ x y is. subst (λ z. IsText (roll-PortType z)) is (layer_text y))
