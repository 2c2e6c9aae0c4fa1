-- What is printed of a value of a port's type is UTF-8.
use Rattle.std.proofs.Common.{◌≡◌, ℕ, Bool, true, false, true≢false, nat_lt, ◌&&◌, IsTrue, IsUtf8, if◌then◌else◌, List, [], ◌∷◌, ◌++◌, map, codes, refl, sym, ◌∙◌, ap, subst}
use Rattle.std.specs.Fmt.{signed_decimal}
use Rattle.std.specs.List.{list_all}
use Rattle.std.specs.Str.{bytes_eq}
use Rattle.std.proofs.lemmas.Slice.Eq.{bytes_eq-Decides}
use Rattle.std.proofs.lemmas.Str.{IsUtf8-append, IsUtf8-nil, IsUtf8-from_is_utf8}
use Rattle.elm_base.specs.declared.event.PortType.{PortType, map-PortType, roll-PortType}
use Rattle.elm_base.specs.declared.event.PortType.TheOpen as type
use Rattle.elm_base.specs.declared.event.PortType.TheFolds.{fold-roll-PortType, ind-PortType}
use Rattle.elm_base.specs.declared.event.PortValue.{PortValue, out-PortValue, map-PortValue}
use Rattle.elm_base.specs.declared.event.PortValue.TheOpen as value
use Rattle.elm_base.specs.declared.event.PortValue.TheFolds.{fold_out-PortValue}
use Rattle.port_values.specs.Values.{all_pass, fields_pass, passes, test_step, is_of}
use Rattle.port_values.specs.ValueText.{Printed, argument, truth_text, values, other_values, fields, field, other_fields, print_step, printed, printed_field, value_text}
use Rattle.port_literals.specs.Ports.{is_label, is_new, are_labels, are_several, port_step, is_port}
use Rattle.session_file.proofs.Letters.{and_left, and_right, low_text, name_low, int_low, quoted_text}

abbrev IsText : PortType → Type 0
IsText port = IsTrue (is_port port) → (given : PortValue) → IsTrue (is_of port given) → IsUtf8 (value_text given)

abbrev Part : Type 0
Part = (port : PortType) × IsText port

abbrev port_of : Part → PortType
port_of y = y.0

abbrev ports : type.PortType-F Part → type.PortType-F PortType
ports y = map-PortType Part PortType port_of y

-- ---- texts in a row

abbrev Good : Printed → Type 0
Good p = IsUtf8 p.text

abbrev AllGood : List Printed → Type 0
AllGood [] = Unit {0}
AllGood (p ∷ ps) = Good p × AllGood ps

abbrev FieldsGood : List (List ℕ × Printed) → Type 0
FieldsGood [] = Unit {0}
FieldsGood (f ∷ fs) = IsUtf8 f.0 × Good f.1 × FieldsGood fs

low : (bs : List ℕ) → list_all (λ byte. nat_lt byte 128) bs ≡ true → (rest : List ℕ) → IsUtf8 rest → IsUtf8 (bs ++ rest)
low bs h rest is = IsUtf8-append bs rest (low_text bs h) is

others_good : (ps : List Printed) → AllGood ps → IsUtf8 (other_values ps)
others_good [] h = IsUtf8-nil
others_good (p ∷ ps) h =
    IsUtf8-append (codes "," ++ p.text) (other_values ps) (low (codes ",") refl p.text h.0) (others_good ps h.1)

values_good : (ps : List Printed) → AllGood ps → IsUtf8 (values ps)
values_good [] h = IsUtf8-nil
values_good (p ∷ ps) h = IsUtf8-append p.text (other_values ps) h.0 (others_good ps h.1)

field_good : (f : List ℕ × Printed) → IsUtf8 f.0 → Good f.1 → IsUtf8 (field f)
field_good (label, p) h k = IsUtf8-append (label ++ codes " = ") p.text (IsUtf8-append label (codes " = ") h (low_text (codes " = ") refl)) k

other_fields_good : (fs : List (List ℕ × Printed)) → FieldsGood fs → IsUtf8 (other_fields fs)
other_fields_good [] h = IsUtf8-nil
other_fields_good (f ∷ fs) h =
    IsUtf8-append (codes ", " ++ field f) (other_fields fs) (low (codes ", ") refl (field f) (field_good f h.0 h.1)) (other_fields_good fs h.2)

fields_good : (fs : List (List ℕ × Printed)) → FieldsGood fs → IsUtf8 (fields fs)
fields_good [] h = low_text (codes "{}") refl
fields_good (f ∷ fs) h =
    low (codes "{ ") refl ((field f ++ other_fields fs) ++ codes " }")
    (IsUtf8-append (field f ++ other_fields fs) (codes " }") (IsUtf8-append (field f) (other_fields fs) (field_good f h.0 h.1) (other_fields_good fs h.2)) (low_text (codes " }") refl))

-- ---- parts

each_good : (y : Part) → IsTrue (is_port y.0) → (givens : List PortValue) → list_all (is_of y.0) givens ≡ true → AllGood (map printed givens)
each_good y is [] h = tt
each_good y is (given ∷ givens) h = (y.1 is given (and_left (is_of y.0 given) _ h), each_good y is givens (and_right (is_of y.0 given) _ h))

all_good : (ys : List Part) → list_all (λ part. part) (map is_port (map port_of ys)) ≡ true → (givens : List PortValue) → all_pass (map is_of (map port_of ys)) givens ≡ true
    → AllGood (map printed givens)
all_good [] is [] h = tt
all_good [] is (given ∷ givens) h = absurd (true≢false (sym h))
all_good (y ∷ ys) is [] h = absurd (true≢false (sym h))
all_good (y ∷ ys) is (given ∷ givens) h = (
  y.1 (and_left (is_port y.0) _ is) given (and_left (is_of y.0 given) _ h),
  all_good ys (and_right (is_port y.0) _ is) givens (and_right (is_of y.0 given) _ h),
)

abbrev Field : Type 0
Field = List ℕ × Part

abbrev port_field : Field → List ℕ × PortType
port_field y = (y.0, y.1.0)

abbrev test_field : List ℕ × PortType → List ℕ × (PortValue → Bool)
test_field f = (f.0, is_of f.1)

abbrev pass_field : List ℕ × PortType → List ℕ × Bool
pass_field f = (f.0, is_port f.1)

label_good : (label : List ℕ) → is_label label ≡ true → IsUtf8 label
label_good [] h = IsUtf8-nil
label_good (byte ∷ rest) h = low_text (byte ∷ rest) (name_low (byte ∷ rest) h)

abbrev passed : List Field → List (List ℕ × Bool)
passed ys = map pass_field (map port_field ys)

record_good : (ys : List Field) → are_labels (passed ys) ≡ true → list_all (λ (f : List ℕ × Bool). f.1) (passed ys) ≡ true
    → (givens : List (List ℕ × PortValue)) → fields_pass (map test_field (map port_field ys)) givens ≡ true → FieldsGood (map printed_field givens)
record_good [] names is [] h = tt
record_good [] names is (given ∷ givens) h = absurd (true≢false (sym h))
record_good (y ∷ ys) names is [] h = absurd (true≢false (sym h))
record_good (y ∷ ys) names is (given ∷ givens) h =
    let first = and_left (bytes_eq y.0 given.0 && is_of y.1.0 given.1) _ h in
    let same = (bytes_eq-Decides y.0 given.0).0 (and_left (bytes_eq y.0 given.0) _ first) in
    let own = and_left (is_label y.0) _ (and_left (is_label y.0 && is_new y.0 (passed ys)) _ names) in (
      subst IsUtf8 same (label_good y.0 own),
      y.1.1 (and_left (is_port y.1.0) _ is) given.1 (and_right (bytes_eq y.0 given.0) _ first),
      record_good ys (and_right (is_label y.0 && is_new y.0 (passed ys)) _ names) (and_right (is_port y.1.0) _ is) givens (and_right (bytes_eq y.0 given.0 && is_of y.1.0 given.1) _ h),
    )

-- ---- the forms

abbrev Layer : Type 0
Layer = type.PortType-F Part

abbrev Passes : Layer → value.PortValue-F PortValue → Type 0
Passes y given = passes (map-PortType PortType (PortValue → Bool) is_of (ports y)) given ≡ true

abbrev Ports : Layer → Type 0
Ports y = port_step (map-PortType PortType Bool is_port (ports y)) ≡ true

abbrev Stands : value.PortValue-F PortValue → Type 0
Stands given = IsUtf8 (print_step (map-PortValue PortValue Printed printed given)).text

truth_good : (is : Bool) → IsUtf8 (truth_text is)
truth_good true = low_text (codes "True") refl
truth_good false = low_text (codes "False") refl

argument_good : (p : Printed) → Good p → IsUtf8 (argument p)
argument_good p h = go p.takes_brackets where
  go : (b : Bool) → IsUtf8 (if b then codes "(" ++ p.text ++ codes ")" else p.text)
  go true = low (codes "(") refl (p.text ++ codes ")") (IsUtf8-append p.text (codes ")") h (low_text (codes ")") refl))
  go false = h

unit_stands : (given : value.PortValue-F PortValue) → Passes type.Unit given → Stands given
unit_stands value.Unit h = low_text (codes "()") refl
unit_stands other h = absurd (true≢false (sym h))

int_stands : (given : value.PortValue-F PortValue) → Passes type.Int given → Stands given
int_stands (value.Int number) h = low_text (signed_decimal number) (int_low number h)
int_stands other h = absurd (true≢false (sym h))

truth_stands : (given : value.PortValue-F PortValue) → Passes type.Bool given → Stands given
truth_stands (value.Bool is) h = truth_good is
truth_stands other h = absurd (true≢false (sym h))

text_stands : (given : value.PortValue-F PortValue) → Passes type.Text given → Stands given
text_stands (value.Text bytes) h = quoted_text bytes (IsUtf8-from_is_utf8 bytes h)
text_stands other h = absurd (true≢false (sym h))

maybe_stands : (y : Part) → Ports (type.Maybe y) → (given : value.PortValue-F PortValue) → Passes (type.Maybe y) given → Stands given
maybe_stands y is value.Nothing h = low_text (codes "Nothing") refl
maybe_stands y is (value.Just given) h = low (codes "Just ") refl (argument (printed given)) (argument_good (printed given) (y.1 is given h))
maybe_stands y is other h = absurd (true≢false (sym h))

list_stands : (y : Part) → Ports (type.List y) → (given : value.PortValue-F PortValue) → Passes (type.List y) given → Stands given
list_stands y is (value.List givens) h =
    low (codes "[") refl (values (map printed givens) ++ codes "]")
    (IsUtf8-append (values (map printed givens)) (codes "]") (values_good (map printed givens) (each_good y is givens h)) (low_text (codes "]") refl))
list_stands y is other h = absurd (true≢false (sym h))

tuple_stands : (ys : List Part) → Ports (type.Tuple ys) → (given : value.PortValue-F PortValue) → Passes (type.Tuple ys) given → Stands given
tuple_stands ys is (value.Tuple givens) h =
    low (codes "(") refl (values (map printed givens) ++ codes ")")
    (IsUtf8-append (values (map printed givens)) (codes ")")
    (values_good (map printed givens) (all_good ys (and_right (are_several (map is_port (map port_of ys))) _ is) givens h)) (low_text (codes ")") refl))
tuple_stands ys is other h = absurd (true≢false (sym h))

record_stands : (ys : List Field) → Ports (type.Fields ys) → (given : value.PortValue-F PortValue) → Passes (type.Fields ys) given → Stands given
record_stands ys is (value.Fields givens) h =
    fields_good (map printed_field givens) (record_good ys (and_left (are_labels (passed ys)) _ is) (and_right (are_labels (passed ys)) _ is) givens h)
record_stands ys is other h = absurd (true≢false (sym h))

layer_stands : (y : Layer) → Ports y → (given : value.PortValue-F PortValue) → Passes y given → Stands given
layer_stands type.Unit is given h = unit_stands given h
layer_stands type.Int is given h = int_stands given h
layer_stands type.Bool is given h = truth_stands given h
layer_stands type.Text is given h = text_stands given h
layer_stands (type.Maybe y) is given h = maybe_stands y is given h
layer_stands (type.List y) is given h = list_stands y is given h
layer_stands (type.Tuple ys) is given h = tuple_stands ys is given h
layer_stands (type.Fields ys) is given h = record_stands ys is given h

layer_text : (y : Layer) → IsText (roll-PortType (ports y))
layer_text y is given h =
    subst (λ (p : Printed). IsUtf8 p.text) (sym (fold_out-PortValue Printed print_step given))
    (layer_stands y (sym (fold-roll-PortType Bool port_step (ports y)) ∙ is) (out-PortValue given)
    (sym (ap (λ test. test given) (fold-roll-PortType (PortValue → Bool) test_step (ports y))) ∙ h))

pub value_text_is : (port : PortType) → IsTrue (is_port port) → (given : PortValue) → IsTrue (is_of port given) → IsUtf8 (value_text given)
value_text_is = ind-PortType IsText (λ x y is. subst (λ z. IsText (roll-PortType z)) is (layer_text y))
