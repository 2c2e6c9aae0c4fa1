-- Whatever is a literal is read, with its value.
use Rattle.std.proofs.Common.{◌≡◌, ◌==◌, ℕ, zero, suc, ℤ, Bool, ◌⊎◌, inl, inr, true, false, true≢false, not, IsTrue, if◌then◌else◌, arith, List, [], ◌∷◌, ◌++◌, map, length, replicate, codes, Option, Some, None, refl, sym, ◌∙◌, ap, ap₂}
use Rattle.std.specs.List.{list_all}
use Rattle.std.specs.Option.{option_map}
use Rattle.std.specs.Str.{bytes_eq}
use Rattle.std.proofs.lemmas.List.{append-nil}
use Rattle.std.proofs.lemmas.Slice.Eq.{bytes_eq-Decides}
use Rattle.elm_base.specs.Letters.{is_name_byte}
use Rattle.elm_base.specs.Spaces.{trim_start}
use Rattle.elm_base.specs.declared.event.PortType.{PortType, out-PortType, map-PortType}
use Rattle.elm_base.specs.declared.event.PortType.TheOpen as type
use Rattle.elm_base.specs.declared.event.PortType.TheFolds.{fold_out-PortType}
use Rattle.elm_base.specs.declared.event.PortValue.{PortValue, out-PortValue, roll-PortValue}
use Rattle.elm_base.specs.declared.event.PortValue.TheOpen as value
use Rattle.elm_base.specs.declared.event.PortValue.TheVariants as made
use Rattle.port_values.specs.Leaves.{int_of, is_unit, truth_of, text_of}
use Rattle.port_values.specs.Literals.{Text, AreSpaces, ends_word, Encloses, Lists, last, Reordered, none, put, Spells, form, brackets, Forms, unit, int, truth, quotes, nothing, just, list, tuple, fields, SpellEach, done, part, SpellFields, no_field, field}
use Rattle.port_literals.specs.Ports.{is_label, is_new, are_several, is_port}
use Rattle.port_literals.specs.Parts.{trim, parts_of}
use Rattle.port_literals.specs.Reader.{Reader, before_last, between, are_own, bracketed_by, bracketed, maybe_of, put_first, read_each, read_all, name_and_rest, behind_equals, field_of, first_of_two, at_label, read_some, put_field, read_fields, whole_fields, read_parts, within, read_step, read}
use Rattle.port_literals.specs.Reader.{form as read_form}
use Rattle.port_literals.specs.Steps.{reader_field}
use Rattle.port_literals.proofs.Texts.{and_left, and_right, same, apart, starts, skipped, stays, trimmed, enclosed_found}
use Rattle.port_literals.proofs.Cuts.{Fine, AllFine, parts_are}
use Rattle.port_literals.proofs.Values.{value_again}
use Rattle.port_literals.proofs.Closed.{in_number, int_bytes, truth_bytes, unit_encloses, quoted_text, AllPorts, AllFields, all_ports, each_port, all_fields, IsLayer, layer_of, label_names, reordered_fine, fine, each_fine, fields_fine}

-- ---- brackets

unbracketed : (layer : type.PortType-F Reader) (room : ℕ) (text : Text) → bracketed layer text ≡ None → read_step layer room text ≡ read_form layer room text
unbracketed layer zero text h = refl
unbracketed layer (suc room) text h = ap (λ x. within x (λ inside. read_step layer room inside) (read_form layer (suc room) text)) h

one_is_not_own : (layer : type.PortType-F Reader) (text : Text) → are_own layer (text ∷ []) ≡ false
one_is_not_own type.Unit text = refl
one_is_not_own type.Int text = refl
one_is_not_own type.Bool text = refl
one_is_not_own type.Text text = refl
one_is_not_own (type.Maybe r) text = refl
one_is_not_own (type.List r) text = refl
one_is_not_own (type.Tuple rs) text = refl
one_is_not_own (type.Fields fs) text = refl

round_a_value : (layer : type.PortType-F Reader) (inside text : Text) → Fine inside → Encloses 40 41 inside text → bracketed layer text ≡ Some inside
round_a_value layer inside text f e =
    ap (bracketed_by layer) (enclosed_found 40 41 inside text e)
    ∙ ap (λ x. if are_own layer x then None else Some (trim (e.0 ++ (inside ++ e.1)))) (parts_are (inside ∷ []) inside (last inside) (f, tt) e.0 e.1 e.2 e.3)
    ∙ ap (λ b. if b then None else Some (trim (e.0 ++ (inside ++ e.1)))) (one_is_not_own layer inside)
    ∙ ap (λ x. Some x) (trimmed e.0 inside e.1 e.2 f.begins f.closed e.3)

-- a text of bytes among which is no bracket
no_brackets : (test : ℕ → Bool) → test 40 ≡ false → (layer : type.PortType-F Reader) (text : Text) → list_all test text ≡ true → bracketed layer text ≡ None
no_brackets test fails layer [] h = refl
no_brackets test fails layer (byte ∷ rest) h =
    ap (λ b. bracketed_by layer (if b then before_last 41 rest else None)) (apart test 40 byte fails (and_left (test byte) (list_all test rest) h))

-- ---- parts

enclosed_parts : (open_ close : ℕ) (inside text : Text) (texts : List Text) → Lists texts inside → AllFine texts → Encloses open_ close inside text
    → (middle : Text) × (between open_ close text ≡ Some middle) × (parts_of middle ≡ texts)
enclosed_parts open_ close inside text texts lists f e =
    (e.0 ++ (inside ++ e.1), enclosed_found open_ close inside text e, parts_are texts inside lists f e.0 e.1 e.2 e.3)

parts_read : {A : Type 0} (read_texts : List Text → Option A) (open_ close : ℕ) (inside text : Text) (texts : List Text) (x : A)
    → Lists texts inside → AllFine texts → Encloses open_ close inside text → read_texts texts ≡ Some x → read_parts read_texts (between open_ close text) ≡ Some x
parts_read read_texts open_ close inside text texts x lists f e h =
    let found = enclosed_parts open_ close inside text texts lists f e in
    ap (read_parts read_texts) found.1 ∙ ap read_texts found.2 ∙ h

one_reader : (reader : Reader) (room : ℕ) (texts : List Text) (givens : List PortValue)
    → read_all (replicate (length texts) reader) room texts ≡ Some givens → read_each reader room texts ≡ Some givens
one_reader reader room texts givens h = sym (go texts) ∙ h where
  go : (ts : List Text) → read_all (replicate (length ts) reader) room ts ≡ read_each reader room ts
  go [] = refl
  go (t ∷ ts) = ap (put_first (reader room t)) (go ts)

read_replicated : (n : ℕ) (port : PortType) → map read (replicate n port) ≡ replicate n (read port)
read_replicated zero port = refl
read_replicated (suc n) port = ap (λ x. read port ∷ x) (read_replicated n port)

as_many : (room : ℕ) (ports : List PortType) (givens : List PortValue) (texts : List Text) → SpellEach room ports givens texts
    → (length givens ≡ length texts) × (length ports ≡ length texts)
as_many _ _ _ _ (done room) = (refl, refl)
as_many _ _ _ _ (part room port given text ports givens texts s each) =
    let more = as_many room ports givens texts each in
    (ap suc more.0, ap suc more.1)

still_several : {A B : Type 0} (xs : List A) (ys : List B) → length xs ≡ length ys → are_several xs ≡ true → are_several ys ≡ true
still_several [] ys h k = absurd (true≢false (sym k))
still_several (x ∷ []) ys h k = absurd (true≢false (sym k))
still_several (x ∷ z ∷ xs) [] h k = absurd (omega (arith, h))
still_several (x ∷ z ∷ xs) (y ∷ []) h k = absurd (omega (arith, h))
still_several (x ∷ z ∷ xs) (y ∷ w ∷ ys) h k = refl

several_ports : (ports : List PortType) → are_several (map is_port ports) ≡ true → are_several ports ≡ true
several_ports [] h = h
several_ports (p ∷ []) h = h
several_ports (p ∷ q ∷ ports) h = refl

-- ---- fields

named : (label rest : Text) → list_all is_name_byte label ≡ true → ends_word rest ≡ true → name_and_rest (label ++ rest) ≡ (label, rest)
named [] [] h k = refl
named [] (byte ∷ rest) h k = go (is_name_byte byte) k where
  go : (b : Bool) → not b ≡ true → ◌≡◌ {A = Text × Text} (if b then (byte ∷ (name_and_rest rest).0, (name_and_rest rest).1) else ([], byte ∷ rest)) ([], byte ∷ rest)
  go true k = absurd (true≢false (sym k))
  go false k = refl
named (byte ∷ label) rest h k =
    ap (λ b. if b then (byte ∷ (name_and_rest (label ++ rest)).0, (name_and_rest (label ++ rest)).1) else ([], byte ∷ (label ++ rest))) (and_left (is_name_byte byte) (list_all is_name_byte label) h)
    ∙ ap (λ p. (byte ∷ p.0, p.1)) (named label rest (and_right (is_name_byte byte) (list_all is_name_byte label) h) k)

word_ends : (before rest : Text) → AreSpaces before → ends_word (before ++ 61 ∷ rest) ≡ true
word_ends [] rest h = refl
word_ends (byte ∷ before) rest h =
    ap (λ b. not (is_name_byte b)) (same 32 byte (and_left (byte == 32) (list_all (λ byte. byte == 32) before) h))

alone : (t : Text) → starts t ≡ true → trim_start t ≡ t
alone t h = ap trim_start (sym (append-nil t)) ∙ stays t [] h ∙ append-nil t

is_equal : (label : Text) → bytes_eq label label ≡ true
is_equal label = (bytes_eq-Decides label label).1 refl

abbrev FieldText : Text → Text → Text → Text → Text
FieldText label before behind_it inside = label ++ (before ++ 61 ∷ (behind_it ++ inside))

field_read : (label before behind_it inside text : Text) → is_label label ≡ true → AreSpaces before → AreSpaces behind_it → Fine inside
    → text ≡ FieldText label before behind_it inside → field_of label text ≡ Some inside
field_read label before behind_it inside text l h k f is =
    let rest : Text = before ++ 61 ∷ (behind_it ++ inside) in
    ap (field_of label) is
    ∙ ap (λ (p : Text × Text). if bytes_eq label p.0 then behind_equals (trim_start p.1) else None) (named label rest (label_names label l) (word_ends before (behind_it ++ inside) h))
    ∙ ap (λ b. if b then behind_equals (trim_start rest) else None) (is_equal label)
    ∙ ap behind_equals (skipped before (61 ∷ (behind_it ++ inside)) h)
    ∙ ap (λ x. Some x) (skipped behind_it inside k ∙ alone inside f.begins)

other_label : (other label before behind_it inside text : Text) → bytes_eq other label ≡ false → is_label label ≡ true → AreSpaces before
    → text ≡ FieldText label before behind_it inside → field_of other text ≡ None
other_label other label before behind_it inside text d l h is =
    let rest : Text = before ++ 61 ∷ (behind_it ++ inside) in
    ap (field_of other) is
    ∙ ap (λ (p : Text × Text). if bytes_eq other p.0 then behind_equals (trim_start p.1) else None) (named label rest (label_names label l) (word_ends before (behind_it ++ inside) h))
    ∙ ap (λ b. if b then behind_equals (trim_start rest) else None) d

pub turned : (a b : Text) → bytes_eq a b ≡ false → bytes_eq b a ≡ false
turned a b h = go (bytes_eq b a) refl where
  go : (x : Bool) → bytes_eq b a ≡ x → x ≡ false
  go false e = refl
  go true e = absurd (true≢false (sym ((bytes_eq-Decides a b).1 (sym ((bytes_eq-Decides b a).0 e))) ∙ h))

-- no field has the label
abbrev pub NoneAt : Text → List Text → Type 0
NoneAt label [] = Unit {0}
NoneAt label (text ∷ texts) = (field_of label text ≡ None) × NoneAt label texts

-- at most one has it
abbrev pub OneAt : Text → List Text → Type 0
OneAt label [] = Unit {0}
OneAt label (text ∷ texts) = ((field_of label text ≡ None) × OneAt label texts) ⊎ NoneAt label texts

none_found : (label : Text) (texts : List Text) → NoneAt label texts → at_label label texts ≡ None
none_found label [] h = refl
none_found label (text ∷ texts) h = ap (λ x. first_of_two x (at_label label texts)) h.0 ∙ none_found label texts h.1

pub passed_over : (label text : Text) (before back : List Text) → field_of label text ≡ None → at_label label (before ++ text ∷ back) ≡ at_label label (before ++ back)
passed_over label text [] back h = ap (λ x. first_of_two x (at_label label back)) h
passed_over label text (first ∷ before) back h = ap (first_of_two (field_of label first)) (passed_over label text before back h)

put_none : (label text : Text) (before back : List Text) → field_of label text ≡ None → NoneAt label (before ++ back) → NoneAt label (before ++ text ∷ back)
put_none label text [] back h k = (h, k)
put_none label text (first ∷ before) back h k = (k.0, put_none label text before back h k.1)

only_found : (label text : Text) (before back : List Text) → NoneAt label (before ++ back) → at_label label (before ++ text ∷ back) ≡ first_of_two (field_of label text) None
only_found label text [] back h = ap (first_of_two (field_of label text)) (none_found label back h)
only_found label text (first ∷ before) back h =
    ap (λ x. first_of_two x (at_label label (before ++ text ∷ back))) h.0 ∙ only_found label text before back h.1

reordered_none : (label : Text) (texts written : List Text) → Reordered texts written → NoneAt label texts → NoneAt label written
reordered_none label _ _ none h = tt
reordered_none label _ _ (put text before back others r) h = put_none label text before back h.0 (reordered_none label others (before ++ back) r h.1)

reordered_found : (label : Text) (texts written : List Text) → Reordered texts written → OneAt label texts → at_label label texts ≡ at_label label written
reordered_found label _ _ none h = refl
reordered_found label _ _ (put text before back others r) h =
    elim h [
      | inl k ↦ passed_over label text [] others k.0 ∙ reordered_found label others (before ++ back) r k.1 ∙ sym (passed_over label text before back k.0)
      | inr k ↦ only_found label text [] others k ∙ sym (only_found label text before back (reordered_none label others (before ++ back) r k))
    ]

reordered_length : (texts written : List Text) → Reordered texts written → length texts ≡ length written
reordered_length _ _ none = refl
reordered_length _ _ (put text before back others r) = ap suc (reordered_length others (before ++ back) r) ∙ sym (go before) where
  go : (b : List Text) → length (b ++ text ∷ back) ≡ suc (length (b ++ back))
  go [] = refl
  go (first ∷ b) = ap suc (go b)

none_spelled : (other : Text) (room : ℕ) (ports : List (Text × PortType)) (givens : List (Text × PortValue)) (texts : List Text)
    → SpellFields room ports givens texts → AllFields ports → (bytes : Text) → other ≡ bytes → is_new bytes ports ≡ true → NoneAt other texts
none_spelled other _ _ _ _ (no_field room) h bytes same_bytes new = tt
none_spelled other _ _ _ _ (field room label port given before behind_it inside text ports givens texts b c s is each) h bytes same_bytes new = (
  other_label other label before behind_it inside text (ap (λ x. bytes_eq x label) same_bytes ∙ differs (bytes_eq bytes label) (and_left (not (bytes_eq bytes label)) _ new)) h.0 b is,
  none_spelled other room ports givens texts each h.3 bytes same_bytes (and_right (not (bytes_eq bytes label)) _ new),
)
  where
    differs : (x : Bool) → not x ≡ true → x ≡ false
    differs true k = sym k
    differs false k = refl

one_spelled : (other : Text) (room : ℕ) (ports : List (Text × PortType)) (givens : List (Text × PortValue)) (texts : List Text)
    → SpellFields room ports givens texts → AllFields ports → OneAt other texts
one_spelled other _ _ _ _ (no_field room) h = tt
one_spelled other _ _ _ _ (field room label port given before behind_it inside text ports givens texts b c s is each) h =
    go (bytes_eq other label) refl (one_spelled other room ports givens texts each h.3)
  where
    go : (x : Bool) → bytes_eq other label ≡ x → OneAt other texts → OneAt other (text ∷ texts)
    go true e more = inr (none_spelled other room ports givens texts each h.3 label ((bytes_eq-Decides other label).0 e) h.1)
    go false e more = inl (other_label other label before behind_it inside text e h.0 b is, more)

fields_as_many : (room : ℕ) (ports : List (Text × PortType)) (givens : List (Text × PortValue)) (texts : List Text) → SpellFields room ports givens texts → length ports ≡ length texts
fields_as_many _ _ _ _ (no_field room) = refl
fields_as_many _ _ _ _ (field room label port given before behind_it inside text ports givens texts b c s is each) = ap suc (fields_as_many room ports givens texts each)

mapped_length : {A B : Type 0} (f : A → B) (xs : List A) → length (map f xs) ≡ length xs
mapped_length f [] = refl
mapped_length f (x ∷ xs) = ap suc (mapped_length f xs)

-- one of these labels
abbrev Among : Text → List (Text × PortType) → Type 0
Among label [] = ⊥
Among label (port ∷ ports) = (label ≡ port.0) ⊎ Among label ports

new_differs : (label other : Text) (ports : List (Text × PortType)) → is_new label ports ≡ true → Among other ports → bytes_eq label other ≡ false
new_differs label other [] new h = absurd h
new_differs label other (port ∷ ports) new h =
    elim h [
      | inl e ↦ ap (bytes_eq label) e ∙ differs (bytes_eq label port.0) (and_left (not (bytes_eq label port.0)) _ new)
      | inr more ↦ new_differs label other ports (and_right (not (bytes_eq label port.0)) _ new) more
    ]
  where
    differs : (x : Bool) → not x ≡ true → x ≡ false
    differs true k = sym k
    differs false k = refl

abbrev Says : type.PortType-F PortType → value.PortValue-F PortValue → ℕ → Text → Type 0
Says layer given room text = read_step (map-PortType PortType Reader read layer) room text ≡ Some (roll-PortValue given)

plainly : (layer : type.PortType-F PortType) (given : value.PortValue-F PortValue) (room : ℕ) (text : Text)
    → bracketed (map-PortType PortType Reader read layer) text ≡ None
    → read_form (map-PortType PortType Reader read layer) room text ≡ Some (roll-PortValue given) → Says layer given room text
plainly layer given room text h k = unbracketed (map-PortType PortType Reader read layer) room text h ∙ k

first_is : (layer : type.PortType-F Reader) (byte : ℕ) (rest text : Text) → (byte == 40) ≡ false → text ≡ byte ∷ rest → bracketed layer text ≡ None
first_is layer byte rest text h is = ap (bracketed layer) is ∙ ap (λ b. bracketed_by layer (if b then before_last 41 rest else None)) h

int_said : (room : ℕ) (number : ℤ) (text : Text) → int_of text ≡ Some number → Says type.Int (value.Int number) room text
int_said room number text is =
    plainly type.Int (value.Int number) room text (no_brackets in_number refl type.Int text (int_bytes text number is).0)
    (ap (option_map made.Int) is ∙ ap (λ x. Some x) (sym (made.rolls-Int number)))

truth_said : (room : ℕ) (is : Bool) (text : Text) → truth_of text ≡ Some is → Says type.Bool (value.Bool is) room text
truth_said room is text e =
    plainly type.Bool (value.Bool is) room text (no_brackets is_name_byte refl type.Bool text (truth_bytes text is e).0)
    (ap (option_map made.Bool) e ∙ ap (λ x. Some x) (sym (made.rolls-Bool is)))

text_said : (room : ℕ) (bytes text : Text) → text_of text ≡ Some bytes → Says type.Text (value.Text bytes) room text
text_said room bytes text is =
    let quoted = quoted_text text bytes is in
    plainly type.Text (value.Text bytes) room text (first_is type.Text 34 quoted.0 text refl quoted.1)
    (ap (option_map made.Text) is ∙ ap (λ x. Some x) (sym (made.rolls-Text bytes)))

unit_said : (room : ℕ) (text : Text) → is_unit text ≡ true → Says type.Unit value.Unit (suc room) text
unit_said room text is =
    let e = unit_encloses text is in
    plainly type.Unit value.Unit (suc room) text
    (ap (bracketed_by {A = Reader} type.Unit) (enclosed_found 40 41 [] text e)
    ∙ ap (λ x. if are_own {A = Reader} type.Unit x then None else Some (trim (e.0 ++ ([] ++ e.1)))) (parts_are [] [] refl tt e.0 e.1 e.2 e.3))
    (ap (λ b. if b then Some made.Unit else None) is ∙ ap (λ x. Some x) (sym made.rolls-Unit))

nothing_said : (room : ℕ) (port : PortType) (text : Text) → text ≡ codes "Nothing" → Says (type.Maybe port) value.Nothing room text
nothing_said room port text is =
    plainly (type.Maybe port) value.Nothing room text (ap (bracketed {A = Reader} (type.Maybe (read port))) is)
    (ap (maybe_of (read port) room) is ∙ ap (λ x. Some x) (sym made.rolls-Nothing))

just_said : (room : ℕ) (port : PortType) (given : PortValue) (spaces inside text : Text) → AreSpaces spaces → ends_word (spaces ++ inside) ≡ true
    → Fine inside → read port room inside ≡ Some given → text ≡ codes "Just" ++ (spaces ++ inside) → Says (type.Maybe port) (value.Just given) room text
just_said room port given spaces inside text are word f inner is =
    plainly (type.Maybe port) (value.Just given) room text (ap (bracketed {A = Reader} (type.Maybe (read port))) is)
    (ap (maybe_of (read port) room) is
    ∙ ap (λ b. if b then option_map made.Just (read port room (trim_start (spaces ++ inside))) else None) word
    ∙ ap (λ x. option_map made.Just (read port room x)) (skipped spaces inside are ∙ alone inside f.begins)
    ∙ ap (option_map made.Just) inner ∙ ap (λ x. Some x) (sym (made.rolls-Just given)))

list_said : (room : ℕ) (port : PortType) (givens : List PortValue) (texts : List Text) (inside text : Text) → length givens ≡ length texts
    → AllFine texts → read_all (map read (replicate (length givens) port)) room texts ≡ Some givens → Lists texts inside → Encloses 91 93 inside text
    → Says (type.List port) (value.List givens) (suc room) text
list_said room port givens texts inside text many f each lists e =
    plainly (type.List port) (value.List givens) (suc room) text
    (first_is (type.List (read port)) 91 (e.0 ++ (inside ++ (e.1 ++ 93 ∷ []))) text refl e.4)
    (ap (option_map made.List) (parts_read (read_each (read port) room) 91 93 inside text texts givens lists f e
    (one_reader (read port) room texts givens (ap (λ x. read_all x room texts) (ap (λ n. replicate n (read port)) (sym many) ∙ sym (read_replicated (length givens) port)) ∙ each)))
    ∙ ap (λ x. Some x) (sym (made.rolls-List givens)))

tuple_said : (room : ℕ) (ports : List PortType) (givens : List PortValue) (texts : List Text) (inside text : Text) → are_several texts ≡ true
    → AllFine texts → read_all (map read ports) room texts ≡ Some givens → Lists texts inside → Encloses 40 41 inside text
    → Says (type.Tuple ports) (value.Tuple givens) (suc room) text
tuple_said room ports givens texts inside text several f each lists e =
    let found = enclosed_parts 40 41 inside text texts lists f e in
    plainly (type.Tuple ports) (value.Tuple givens) (suc room) text
    (ap (bracketed_by {A = Reader} (type.Tuple (map read ports))) found.1
    ∙ ap (λ b. if b then None else Some (trim found.0)) (ap are_several found.2 ∙ several))
    (ap (option_map made.Tuple) (parts_read (read_all (map read ports) room) 40 41 inside text texts givens lists f e each)
    ∙ ap (λ x. Some x) (sym (made.rolls-Tuple givens)))

same_number : (a b : ℕ) → a ≡ b → (a == b) ≡ true
same_number a b h = grind (arith, h)

fields_said : (room : ℕ) (ports : List (Text × PortType)) (givens : List (Text × PortValue)) (written : List Text) (inside text : Text) → length ports ≡ length written
    → AllFine written → read_fields (map reader_field ports) room written ≡ Some givens → Lists written inside → Encloses 123 125 inside text
    → Says (type.Fields ports) (value.Fields givens) (suc room) text
fields_said room ports givens written inside text many f each lists e =
    plainly (type.Fields ports) (value.Fields givens) (suc room) text
    (first_is (type.Fields (map reader_field ports)) 123 (e.0 ++ (inside ++ (e.1 ++ 125 ∷ []))) text refl e.4)
    (ap (option_map made.Fields) (parts_read (whole_fields (map reader_field ports) room) 123 125 inside text written givens lists f e
    (ap (λ b. if b then read_fields (map reader_field ports) room written else None) (same_number _ _ (mapped_length reader_field ports ∙ many)) ∙ each))
    ∙ ap (λ x. Some x) (sym (made.rolls-Fields givens)))

mutual
  -- a literal is read as its value
  pub reads : (room : ℕ) (port : PortType) (given : PortValue) (text : Text) → Spells room port given text → IsTrue (is_port port) → read port room text ≡ Some given
  reads _ _ _ _ (form room port given text f) h =
      ap (λ r. r room text) (fold_out-PortType Reader read_step port)
      ∙ form_reads room (out-PortType port) (out-PortValue given) text f (layer_of port h) ∙ ap (λ x. Some x) (value_again given)
  reads _ _ _ _ (brackets room port given inside text s e) h =
      let layer = map-PortType PortType Reader read (out-PortType port) in
      ap (λ r. r (suc room) text) (fold_out-PortType Reader read_step port)
      ∙ ap (λ x. within x (λ inside. read_step layer room inside) (read_form layer (suc room) text)) (round_a_value layer inside text (fine room port given inside s h) e)
      ∙ sym (ap (λ r. r room inside) (fold_out-PortType Reader read_step port)) ∙ reads room port given inside s h

  form_reads : (room : ℕ) (layer : type.PortType-F PortType) (given : value.PortValue-F PortValue) (text : Text) → Forms room layer given text → IsLayer layer → Says layer given room text
  form_reads _ _ _ _ (unit room text is) h = unit_said room text is
  form_reads _ _ _ _ (int room number text is) h = int_said room number text is
  form_reads _ _ _ _ (truth room is text e) h = truth_said room is text e
  form_reads _ _ _ _ (quotes room bytes text is) h = text_said room bytes text is
  form_reads _ _ _ _ (nothing room port text is) h = nothing_said room port text is
  form_reads _ _ _ _ (just room port given spaces inside text are word s is) h =
      just_said room port given spaces inside text are word (fine room port given inside s h) (reads room port given inside s h) is
  form_reads _ _ _ _ (list room port givens texts inside text each lists e) h =
      list_said room port givens texts inside text (as_many room (replicate (length givens) port) givens texts each).0
      (each_fine room (replicate (length givens) port) givens texts each (each_port port h givens))
      (each_reads room (replicate (length givens) port) givens texts each (each_port port h givens)) lists e
  form_reads _ _ _ _ (tuple room ports givens texts inside text each lists e) h =
      let all = all_ports ports (and_right (are_several (map is_port ports)) _ h) in
      tuple_said room ports givens texts inside text
      (still_several ports texts (as_many room ports givens texts each).1 (several_ports ports (and_left (are_several (map is_port ports)) _ h)))
      (each_fine room ports givens texts each all) (each_reads room ports givens texts each all) lists e
  form_reads _ _ _ _ (fields room ports givens texts written inside text each order lists e) h =
      let all = all_fields ports h in
      fields_said room ports givens written inside text (fields_as_many room ports givens texts each ∙ reordered_length texts written order)
      (reordered_fine texts written order (fields_fine room ports givens texts each all))
      (fields_read room ports givens texts each all written (λ label among. reordered_found label texts written order (one_spelled label room ports givens texts each all))) lists e

  each_reads : (room : ℕ) (ports : List PortType) (givens : List PortValue) (texts : List Text) → SpellEach room ports givens texts → AllPorts ports
      → read_all (map read ports) room texts ≡ Some givens
  each_reads _ _ _ _ (done room) h = refl
  each_reads _ _ _ _ (part room port given text ports givens texts s each) h =
      ap₂ put_first (reads room port given text s h.0) (each_reads room ports givens texts each h.1)

  fields_read : (room : ℕ) (ports : List (Text × PortType)) (givens : List (Text × PortValue)) (texts : List Text) → SpellFields room ports givens texts → AllFields ports
      → (written : List Text) → ((label : Text) → Among label ports → at_label label texts ≡ at_label label written) → read_fields (map reader_field ports) room written ≡ Some givens
  fields_read _ _ _ _ (no_field room) h written same_at = refl
  fields_read _ _ _ _ (field room label port given before behind_it inside text ports givens texts b c s is each) h written same_at =
      ap₂ (put_field label)
      (ap (read_some (read port) room) (sym (same_at label (inl refl)) ∙ ap (λ x. first_of_two x (at_label label texts)) (field_read label before behind_it inside text h.0 b c (fine room port given inside s h.2) is))
      ∙ reads room port given inside s h.2)
      (fields_read room ports givens texts each h.3 written (λ other among.
      sym (ap (λ x. first_of_two x (at_label other texts)) (other_label other label before behind_it inside text (turned label other (new_differs label other ports h.1 among)) h.0 b is))
      ∙ same_at other (inr among)))
