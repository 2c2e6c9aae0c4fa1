-- What is printed is a literal of its value.
use Rattle.std.proofs.Common.{◌≡◌, ◌<◌, max, ℕ, zero, suc, Bool, true, false, true≢false, ◌&&◌, IsTrue, if◌then◌else◌, arith, List, [], ◌∷◌, ◌++◌, map, length, replicate, codes, refl, sym, ◌∙◌, ap, subst}
use Rattle.std.specs.Fmt.{signed_decimal}
use Rattle.std.specs.List.{list_all}
use Rattle.std.specs.Str.{bytes_eq}
use Rattle.std.proofs.lemmas.List.{append_assoc, append-nil}
use Rattle.std.proofs.lemmas.Slice.Eq.{bytes_eq-Decides}
use Rattle.elm_base.specs.Quoted.{quoted}
use Rattle.elm_base.specs.declared.event.PortType.{PortType, map-PortType, roll-PortType}
use Rattle.elm_base.specs.declared.event.PortType.TheOpen as type
use Rattle.elm_base.specs.declared.event.PortType.TheFolds.{fold-roll-PortType, ind-PortType}
use Rattle.elm_base.specs.declared.event.PortValue.{PortValue, out-PortValue, map-PortValue}
use Rattle.elm_base.specs.declared.event.PortValue.TheOpen as value
use Rattle.elm_base.specs.declared.event.PortValue.TheFolds.{fold_out-PortValue}
use Rattle.port_values.specs.Values.{all_pass, fields_pass, passes, test_step, is_of}
use Rattle.port_values.specs.ValueText.{Printed, argument, truth_text, other_values, values, other_fields, print_step, printed, printed_field, value_text}
use Rattle.port_values.specs.ValueText.{field as field_text, fields as fields_text}
use Rattle.port_values.specs.Literals.{Text, Joined, last, then_more, Lists, Reordered, none, put, Spells, form, brackets, Forms, unit, int, truth, quotes, nothing, just, list, tuple, fields, SpellEach, done, part, SpellFields, no_field, field}
use Rattle.port_values.proofs.LeafLaws.{int_is, truth_is, text_is}
use Rattle.port_literals.specs.Laws.{PrintedIsLiteral}
use Rattle.port_literals.specs.Ports.{most, round_parts, nesting_step, nesting}
use Rattle.port_literals.proofs.Texts.{and_left, and_right}
use Rattle.port_literals.proofs.Values.{type_again}

abbrev IsPrinted : PortType → Type 0
IsPrinted port = (room : ℕ) → nesting port < room → (given : PortValue) → IsTrue (is_of port given) → Spells room port given (value_text given)

abbrev Part : Type 0
Part = (port : PortType) × IsPrinted port

abbrev port_of : Part → PortType
port_of y = y.0

abbrev ports : type.PortType-F Part → type.PortType-F PortType
ports y = map-PortType Part PortType port_of y

-- ---- texts with commas between them

abbrev text_of : Printed → Text
text_of p = p.text

joined_values : (p : Printed) (ps : List Printed) → Joined (map text_of (p ∷ ps)) (p.text ++ other_values ps)
joined_values p [] = subst (Joined (p.text ∷ [])) (sym (append-nil p.text)) (last p.text)
joined_values p (q ∷ ps) = then_more p.text (map text_of (q ∷ ps)) [] [] (q.text ++ other_values ps) _ refl refl (joined_values q ps) refl

lists_values : (ps : List Printed) → Lists (map text_of ps) (values ps)
lists_values [] = refl
lists_values (p ∷ ps) = joined_values p ps

abbrev LabelledText : Type 0
LabelledText = Text × Printed

joined_fields : (p : LabelledText) (ps : List LabelledText) → Joined (map field_text (p ∷ ps)) (field_text p ++ other_fields ps)
joined_fields p [] = subst (Joined (field_text p ∷ [])) (sym (append-nil (field_text p))) (last (field_text p))
joined_fields p (q ∷ ps) = then_more (field_text p) (map field_text (q ∷ ps)) [] (codes " ") (field_text q ++ other_fields ps) _ refl refl (joined_fields q ps) refl

as_they_are : (texts : List Text) → Reordered texts texts
as_they_are [] = none
as_they_are (text ∷ texts) = put text [] texts texts (as_they_are texts)

-- ---- parts

each_spelled : (y : Part) (room : ℕ) → nesting y.0 < room → (givens : List PortValue) → list_all (is_of y.0) givens ≡ true
    → SpellEach room (replicate (length givens) y.0) givens (map text_of (map printed givens))
each_spelled y room n [] h = done room
each_spelled y room n (given ∷ givens) h =
    part room y.0 given (value_text given) (replicate (length givens) y.0) givens (map text_of (map printed givens))
    (y.1 room n given (and_left (is_of y.0 given) _ h)) (each_spelled y room n givens (and_right (is_of y.0 given) _ h))

first_below : (a b c : ℕ) → max a b < c → a < c
first_below a b c h = omega (arith, h)

others_below : (a b c : ℕ) → max a b < c → b < c
others_below a b c h = omega (arith, h)

all_spelled : (ys : List Part) (room : ℕ) → most (map nesting (map port_of ys)) < room → (givens : List PortValue) → all_pass (map is_of (map port_of ys)) givens ≡ true
    → SpellEach room (map port_of ys) givens (map text_of (map printed givens))
all_spelled [] room n [] h = done room
all_spelled [] room n (given ∷ givens) h = absurd (true≢false (sym h))
all_spelled (y ∷ ys) room n [] h = absurd (true≢false (sym h))
all_spelled (y ∷ ys) room n (given ∷ givens) h =
    part room y.0 given (value_text given) (map port_of ys) givens (map text_of (map printed givens))
    (y.1 room (first_below (nesting y.0) (most (map nesting (map port_of ys))) room n) given (and_left (is_of y.0 given) _ h))
    (all_spelled ys room (others_below (nesting y.0) (most (map nesting (map port_of ys))) room n) givens (and_right (is_of y.0 given) _ h))

abbrev Field : Type 0
Field = Text × Part

abbrev port_field : Field → Text × PortType
port_field y = (y.0, y.1.0)

abbrev test_field : Text × PortType → Text × (PortValue → Bool)
test_field f = (f.0, is_of f.1)

abbrev nest_field : Text × PortType → Text × ℕ
nest_field f = (f.0, nesting f.1)

abbrev nests : List Field → List ℕ
nests ys = map (λ f. f.1) (map nest_field (map port_field ys))

fields_spelled : (ys : List Field) (room : ℕ) → most (nests ys) < room → (givens : List (Text × PortValue)) → fields_pass (map test_field (map port_field ys)) givens ≡ true
    → SpellFields room (map port_field ys) givens (map field_text (map printed_field givens))
fields_spelled [] room n [] h = no_field room
fields_spelled [] room n (given ∷ givens) h = absurd (true≢false (sym h))
fields_spelled (y ∷ ys) room n [] h = absurd (true≢false (sym h))
fields_spelled (y ∷ ys) room n (given ∷ givens) h =
    let first = and_left (bytes_eq y.0 given.0 && is_of y.1.0 given.1) _ h in
    let label = (bytes_eq-Decides y.0 given.0).0 (and_left (bytes_eq y.0 given.0) _ first) in
    subst (λ l. SpellFields room (port_field y ∷ map port_field ys) ((l, given.1) ∷ givens) (field_text (l, printed given.1) ∷ map field_text (map printed_field givens))) label
    (field room y.0 y.1.0 given.1 (codes " ") (codes " ") (value_text given.1) (field_text (y.0, printed given.1)) (map port_field ys) givens (map field_text (map printed_field givens)) refl refl
    (y.1.1 room (first_below (nesting y.1.0) (most (nests ys)) room n) given.1 (and_right (bytes_eq y.0 given.0) _ first))
    (append_assoc y.0 (codes " = ") (value_text given.1))
    (fields_spelled ys room (others_below (nesting y.1.0) (most (nests ys)) room n) givens (and_right (bytes_eq y.0 given.0 && is_of y.1.0 given.1) _ h)))

-- ---- the forms

abbrev Layer : Type 0
Layer = type.PortType-F Part

abbrev Passes : Layer → value.PortValue-F PortValue → Type 0
Passes y given = passes (map-PortType PortType (PortValue → Bool) is_of (ports y)) given ≡ true

abbrev Nests : Layer → ℕ → Type 0
Nests y room = nesting_step (map-PortType PortType ℕ nesting (ports y)) < suc room

abbrev Stands : Layer → ℕ → value.PortValue-F PortValue → Type 0
Stands y room given = Forms (suc room) (ports y) given (print_step (map-PortValue PortValue Printed printed given)).text

unit_stands : (room : ℕ) (given : value.PortValue-F PortValue) → Passes type.Unit given → Stands type.Unit room given
unit_stands room value.Unit h = unit room (codes "()") refl
unit_stands room other h = absurd (true≢false (sym h))

int_stands : (room : ℕ) (given : value.PortValue-F PortValue) → Passes type.Int given → Stands type.Int room given
int_stands room (value.Int number) h = int (suc room) number (signed_decimal number) (int_is number h)
int_stands room other h = absurd (true≢false (sym h))

truth_stands : (room : ℕ) (given : value.PortValue-F PortValue) → Passes type.Bool given → Stands type.Bool room given
truth_stands room (value.Bool is) h = truth (suc room) is (truth_text is) (truth_is is)
truth_stands room other h = absurd (true≢false (sym h))

text_stands : (room : ℕ) (given : value.PortValue-F PortValue) → Passes type.Text given → Stands type.Text room given
text_stands room (value.Text bytes) h = quotes (suc room) bytes (quoted 34 bytes) (text_is bytes h)
text_stands room other h = absurd (true≢false (sym h))

argument_spelled : (y : Part) (room : ℕ) → nesting y.0 < room → (given : PortValue) → IsTrue (is_of y.0 given) → Spells (suc room) y.0 given (argument (printed given))
argument_spelled y room n given h = go (printed given).takes_brackets where
  more : nesting y.0 < suc room
  more = omega (arith, n)

  go : (b : Bool) → Spells (suc room) y.0 given (if b then codes "(" ++ value_text given ++ codes ")" else value_text given)
  go true = brackets room y.0 given (value_text given) _ (y.1 room n given h) ([], [], refl, refl, refl)
  go false = y.1 (suc room) more given h

less : (n m : ℕ) → suc n < suc m → n < m
less n m h = omega (arith, h)

maybe_stands : (y : Part) (room : ℕ) → Nests (type.Maybe y) room → (given : value.PortValue-F PortValue) → Passes (type.Maybe y) given → Stands (type.Maybe y) room given
maybe_stands y room n value.Nothing h = nothing (suc room) y.0 (codes "Nothing") refl
maybe_stands y room n (value.Just given) h =
    just (suc room) y.0 given (codes " ") (argument (printed given)) _ refl refl (argument_spelled y room (less (nesting y.0) room n) given h) refl
maybe_stands y room n other h = absurd (true≢false (sym h))

list_stands : (y : Part) (room : ℕ) → Nests (type.List y) room → (given : value.PortValue-F PortValue) → Passes (type.List y) given → Stands (type.List y) room given
list_stands y room n (value.List givens) h =
    list room y.0 givens (map text_of (map printed givens)) (values (map printed givens)) _ (each_spelled y room (less (nesting y.0) room n) givens h) (lists_values (map printed givens))
    ([], [], refl, refl, refl)
list_stands y room n other h = absurd (true≢false (sym h))

zero_fits : (room : ℕ) → 0 < suc room
zero_fits room = omega arith

below_parts : (ns : List ℕ) (room : ℕ) → round_parts ns < suc room → (ns ≡ [] → ⊥) → most ns < room
below_parts [] room h k = absurd (k refl)
below_parts (n ∷ ns) room h k = less (most (n ∷ ns)) room h

tuple_of : (ys : List Part) (room : ℕ) → Nests (type.Tuple ys) room → (givens : List PortValue) → all_pass (map is_of (map port_of ys)) givens ≡ true
    → SpellEach room (map port_of ys) givens (map text_of (map printed givens))
tuple_of [] room n [] h = done room
tuple_of [] room n (given ∷ givens) h = absurd (true≢false (sym h))
tuple_of (y ∷ ys) room n givens h = all_spelled (y ∷ ys) room (less (most (map nesting (map port_of (y ∷ ys)))) room n) givens h

tuple_stands : (ys : List Part) (room : ℕ) → Nests (type.Tuple ys) room → (given : value.PortValue-F PortValue) → Passes (type.Tuple ys) given → Stands (type.Tuple ys) room given
tuple_stands ys room n (value.Tuple givens) h =
    tuple room (map port_of ys) givens (map text_of (map printed givens)) (values (map printed givens)) _ (tuple_of ys room n givens h) (lists_values (map printed givens))
    ([], [], refl, refl, refl)
tuple_stands ys room n other h = absurd (true≢false (sym h))

record_of : (ys : List Field) (room : ℕ) → Nests (type.Fields ys) room → (givens : List (Text × PortValue)) → fields_pass (map test_field (map port_field ys)) givens ≡ true
    → SpellFields room (map port_field ys) givens (map field_text (map printed_field givens))
record_of [] room n [] h = no_field room
record_of [] room n (given ∷ givens) h = absurd (true≢false (sym h))
record_of (y ∷ ys) room n givens h = fields_spelled (y ∷ ys) room (less (most (nests (y ∷ ys))) room n) givens h

record_whole : (ys : List Field) (room : ℕ) → Nests (type.Fields ys) room → (givens : List (Text × PortValue)) → fields_pass (map test_field (map port_field ys)) givens ≡ true
    → Forms (suc room) (type.Fields (map port_field ys)) (value.Fields givens) (fields_text (map printed_field givens))
record_whole ys room n [] h = fields room (map port_field ys) [] [] [] [] (codes "{}") (record_of ys room n [] h) none refl ([], [], refl, refl, refl)
record_whole ys room n (given ∷ givens) h =
    let texts = map field_text (map printed_field (given ∷ givens)) in
    fields room (map port_field ys) (given ∷ givens) texts texts _ _ (record_of ys room n (given ∷ givens) h) (as_they_are texts)
    (joined_fields (printed_field given) (map printed_field givens)) (codes " ", codes " ", refl, refl, refl)

record_stands : (ys : List Field) (room : ℕ) → Nests (type.Fields ys) room → (given : value.PortValue-F PortValue) → Passes (type.Fields ys) given → Stands (type.Fields ys) room given
record_stands ys room n (value.Fields givens) h = record_whole ys room n givens h
record_stands ys room n other h = absurd (true≢false (sym h))

layer_stands : (y : Layer) (room : ℕ) → Nests y room → (given : value.PortValue-F PortValue) → Passes y given → Stands y room given
layer_stands type.Unit room n given h = unit_stands room given h
layer_stands type.Int room n given h = int_stands room given h
layer_stands type.Bool room n given h = truth_stands room given h
layer_stands type.Text room n given h = text_stands room given h
layer_stands (type.Maybe y) room n given h = maybe_stands y room n given h
layer_stands (type.List y) room n given h = list_stands y room n given h
layer_stands (type.Tuple ys) room n given h = tuple_stands ys room n given h
layer_stands (type.Fields ys) room n given h = record_stands ys room n given h

layer_printed : (y : Layer) → IsPrinted (roll-PortType (ports y))
layer_printed y zero n given h = absurd (omega (arith, n))
layer_printed y (suc room) n given h =
    form (suc room) (roll-PortType (ports y)) given (value_text given)
    (subst (λ x. Forms (suc room) x (out-PortValue given) (value_text given)) (sym (type_again (ports y)))
    (subst (λ p. Forms (suc room) (ports y) (out-PortValue given) p.text) (sym (fold_out-PortValue Printed print_step given))
    (layer_stands y room (subst (λ d. d < suc room) (fold-roll-PortType ℕ nesting_step (ports y)) n) (out-PortValue given)
    (sym (ap (λ test. test given) (fold-roll-PortType (PortValue → Bool) test_step (ports y))) ∙ h))))

is_printed : (port : PortType) → IsPrinted port
is_printed = ind-PortType IsPrinted (λ x y is. subst (λ z. IsPrinted (roll-PortType z)) is (layer_printed y))

pub printed_is : PrintedIsLiteral
printed_is port n given h = is_printed port 64 n given h
