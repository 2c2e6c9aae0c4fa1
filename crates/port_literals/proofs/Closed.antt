-- A literal's text is closed: it begins and ends with no space, and no comma in it parts the text in which it stands.
use Rattle.std.proofs.Common.{◌≡◌, ◌==◌, ℕ, zero, suc, ℤ, pos, Bool, true, false, true≢false, not, ◌&&◌, ◌||◌, IsTrue, if◌then◌else◌, List, [], ◌∷◌, ◌++◌, map, length, replicate, reverse, codes, Option, Some, None, refl, sym, ◌∙◌, ap, ap₂, subst}
use Rattle.std.specs.Char.{is_ascii_digit}
use Rattle.std.specs.List.{list_all}
use Rattle.std.specs.Option.{option_map}
use Rattle.std.specs.Str.{all_ascii_digits, bytes_eq, is_utf8}
use Rattle.std.specs.Str.Parse.{digits_value}
use Rattle.std.proofs.lemmas.List.{append_assoc, reverse-append}
use Rattle.std.proofs.lemmas.Slice.Eq.{bytes_eq-Decides}
use Rattle.elm_base.specs.Letters.{is_name_byte}
use Rattle.elm_base.specs.Spaces.{trim_start}
use Rattle.elm_base.specs.declared.event.PortType.{PortType, out-PortType, map-PortType}
use Rattle.elm_base.specs.declared.event.PortType.TheOpen as type
use Rattle.elm_base.specs.declared.event.PortType.TheFolds.{fold_out-PortType}
use Rattle.elm_base.specs.declared.event.PortValue.{PortValue, out-PortValue}
use Rattle.elm_base.specs.declared.event.PortValue.TheOpen as value
use Rattle.port_values.specs.Leaves.{kept_by, natural_of, number_of, negative, int_of, is_unit, truth_of, onto, escape_of, nothing_behind, inside_of, between_quotes, text_of}
use Rattle.port_values.specs.Literals.{Text, AreSpaces, Encloses, Reordered, none, put, Spells, form, brackets, Forms, unit, int, truth, quotes, nothing, just, list, tuple, fields, SpellEach, done, part, SpellFields, no_field, field}
use Rattle.port_literals.specs.declared.scan.Place.{Place}
use Rattle.port_literals.specs.declared.scan.Place.TheVariants as place
use Rattle.port_literals.specs.Ports.{is_label, is_new, are_labels, are_several, port_step, is_port}
use Rattle.port_literals.specs.Parts.{cuts}
use Rattle.port_literals.specs.Parts.{put as put_byte}
use Rattle.port_literals.proofs.Texts.{and_left, and_right, and_both, same, apart, starts, ends, start_cut}
use Rattle.port_literals.proofs.Cuts.{front, Passes, within_brackets, both_pass, Avoids, all_pass, spaces_pass, names_pass, IsPair, round, square, curly, enclosed_pass, Fine, AllFine, lists_pass}

-- ---- texts of bytes that part nothing

abbrev pub some : Text → Bool
some [] = false
some (byte ∷ rest) = true

some_more : (x : Text) (byte : ℕ) → some (x ++ byte ∷ []) ≡ true
some_more [] byte = refl
some_more (first ∷ x) byte = refl

all_both : (test : ℕ → Bool) (a b : Text) → list_all test a ≡ true → list_all test b ≡ true → list_all test (a ++ b) ≡ true
all_both test [] b h k = k
all_both test (byte ∷ a) b h k =
    and_both (test byte) _ (and_left (test byte) (list_all test a) h) (all_both test a b (and_right (test byte) (list_all test a) h) k)

all_turned : (test : ℕ → Bool) (text : Text) → list_all test text ≡ true → list_all test (reverse text) ≡ true
all_turned test [] h = refl
all_turned test (byte ∷ text) h =
    subst (λ x. list_all test x ≡ true) (sym (reverse-append (byte ∷ []) text))
    (all_both test (reverse text) (byte ∷ []) (all_turned test text (and_right (test byte) (list_all test text) h))
    (and_both (test byte) true (and_left (test byte) (list_all test text) h) refl))

starts_all : (test : ℕ → Bool) → test 32 ≡ false → (text : Text) → list_all test text ≡ true → some text ≡ true → starts text ≡ true
starts_all test no_space [] h k = k
starts_all test no_space (byte ∷ text) h k = ap not (apart test 32 byte no_space (and_left (test byte) (list_all test text) h))

some_turned : (text : Text) → some text ≡ true → some (reverse text) ≡ true
some_turned [] h = h
some_turned (byte ∷ text) h = ap some (reverse-append (byte ∷ []) text) ∙ some_more (reverse text) byte

pub fine_bytes : (test : ℕ → Bool) → Avoids test → test 32 ≡ false → (text : Text) → list_all test text ≡ true → some text ≡ true → Fine text
fine_bytes test avoids no_space text h k = record {
  begins = starts_all test no_space text h k;
  closed = starts_all test no_space (reverse text) (all_turned test text h) (some_turned text k);
  passes = all_pass test avoids text h;
}

-- ---- ends

pub closed_by : (x : Text) (last : ℕ) → not (last == 32) ≡ true → ends (x ++ last ∷ []) ≡ true
closed_by x last h = ap starts (reverse-append x (last ∷ [])) ∙ h

starts_before : (t u : Text) → starts t ≡ true → starts (t ++ u) ≡ true
starts_before [] u h = absurd (true≢false (sym h))
starts_before (byte ∷ t) u h = h

pub ends_behind : (t u : Text) → ends u ≡ true → ends (t ++ u) ≡ true
ends_behind t u h = ap starts (reverse-append t u) ∙ starts_before (reverse u) (reverse t) h

pub fine_enclosed : (open_ close : ℕ) → IsPair open_ close → not (open_ == 32) ≡ true → not (close == 32) ≡ true → (inside text : Text)
    → ((depth : ℕ) (rest : Text) → cuts (place.Open (suc depth)) (inside ++ rest) ≡ front inside (cuts (place.Open (suc depth)) rest)) → Encloses open_ close inside text → Fine text
fine_enclosed open_ close pair first last inside text p encloses = record {
  begins = ap starts encloses.4 ∙ first;
  closed = ap ends (encloses.4 ∙ ap (λ x. open_ ∷ x) (ap (λ x. encloses.0 ++ x) (sym (append_assoc inside encloses.1 (close ∷ []))) ∙ sym (append_assoc encloses.0 (inside ++ encloses.1) (close ∷ []))))
      ∙ closed_by (open_ ∷ (encloses.0 ++ (inside ++ encloses.1))) close last;
  passes = enclosed_pass open_ close pair inside text p encloses;
}

-- ---- integers

abbrev pub in_number : ℕ → Bool
in_number byte = is_ascii_digit byte || byte == 45

or_left : (a b : Bool) → a ≡ true → (a || b) ≡ true
or_left true b h = refl
or_left false b h = absurd (true≢false (sym h))

or_right : (a b : Bool) → b ≡ true → (a || b) ≡ true
or_right true b h = refl
or_right false b h = h

digits_are : (digits : Text) → all_ascii_digits digits ≡ true → list_all in_number digits ≡ true
digits_are [] h = refl
digits_are (d ∷ digits) h =
    and_both (in_number d) _ (or_left (is_ascii_digit d) (d == 45) (and_left (is_ascii_digit d) (all_ascii_digits digits) h))
    (digits_are digits (and_right (is_ascii_digit d) (all_ascii_digits digits) h))

natural_digits : (sign : ℕ → ℤ) (digits : Text) (number : ℤ) → option_map sign (natural_of digits) ≡ Some number → all_ascii_digits digits ≡ true
natural_digits sign [] number h = cc
natural_digits sign (d ∷ digits) number h = go (all_ascii_digits (d ∷ digits)) h where
  go : (b : Bool) → option_map sign (if b then Some (digits_value 10 (d ∷ digits)) else None) ≡ Some number → b ≡ true
  go true h = refl
  go false h = cc

number_bytes : (text : Text) (number : ℤ) → number_of text ≡ Some number → (list_all in_number text ≡ true) × (some text ≡ true)
number_bytes [] number h = cc
number_bytes (byte ∷ rest) number h = go (byte == 45) refl h where
  go : (b : Bool) → (byte == 45) ≡ b → (if b then option_map negative (natural_of rest) else option_map pos (natural_of (byte ∷ rest))) ≡ Some number
      → (list_all in_number (byte ∷ rest) ≡ true) × (some (byte ∷ rest) ≡ true)
  go true is h = (and_both (in_number byte) _ (or_right (is_ascii_digit byte) (byte == 45) is) (digits_are rest (natural_digits negative rest number h)), refl)
  go false is h = (digits_are (byte ∷ rest) (natural_digits pos (byte ∷ rest) number h), refl)

pub was_kept : {A : Type 0} (test : A → Bool) (read : Option A) (found : A) → kept_by test read ≡ Some found → read ≡ Some found
was_kept test None found h = cc
was_kept test (Some x) found h = go (test x) h where
  go : (b : Bool) → (if b then Some x else None) ≡ Some found → Some x ≡ Some found
  go true h = h
  go false h = cc

pub int_bytes : (text : Text) (number : ℤ) → int_of text ≡ Some number → (list_all in_number text ≡ true) × (some text ≡ true)
int_bytes text number h = number_bytes text number (was_kept _ (number_of text) number h)

-- ---- truths

pub truth_bytes : (text : Text) (is : Bool) → truth_of text ≡ Some is → (list_all is_name_byte text ≡ true) × (some text ≡ true)
truth_bytes text is h = go (bytes_eq text (codes "True")) refl (bytes_eq text (codes "False")) refl h where
  go : (a : Bool) → bytes_eq text (codes "True") ≡ a → (b : Bool) → bytes_eq text (codes "False") ≡ b
      → (if a then Some true else (if b then Some false else None)) ≡ Some is → (list_all is_name_byte text ≡ true) × (some text ≡ true)
  go true e b f h = subst (λ x. (list_all is_name_byte x ≡ true) × (some x ≡ true)) (sym ((bytes_eq-Decides text (codes "True")).0 e)) (refl, refl)
  go false e true f h = subst (λ x. (list_all is_name_byte x ≡ true) × (some x ≡ true)) (sym ((bytes_eq-Decides text (codes "False")).0 f)) (refl, refl)
  go false e false f h = cc

-- ---- the unit

pub unit_encloses : (text : Text) → is_unit text ≡ true → Encloses 40 41 [] text
unit_encloses [] h = absurd (true≢false (sym h))
unit_encloses (byte ∷ rest) h =
    let cut = start_cut rest in
    let closing = (bytes_eq-Decides (trim_start rest) (codes ")")).0 (and_right (byte == 40) _ h) in
    (cut.0, [], cut.1, refl, ap₂ (λ x y. x ∷ y) (same 40 byte (and_left (byte == 40) _ h)) (cut.2 ∙ ap (λ x. cut.0 ++ x) closing))

-- ---- texts

onto_some : (found : Option ℕ) (more : Option Text) (bytes : Text) → onto found more ≡ Some bytes → (rest : Text) × (more ≡ Some rest)
onto_some None more bytes h = cc
onto_some (Some byte) None bytes h = cc
onto_some (Some byte) (Some rest) bytes h = (rest, refl)

abbrev within_text : Bool → ℕ → Place
within_text true depth = place.Escaped depth
within_text false depth = place.Quoted depth

quote_opens : (depth : ℕ) (rest : Text) → cuts (place.Open depth) (34 ∷ rest) ≡ put_byte 34 (cuts (place.Quoted depth) rest)
quote_opens zero rest = refl
quote_opens (suc depth) rest = refl

nothing_left : (rest bytes : Text) → nothing_behind rest ≡ Some bytes → rest ≡ []
nothing_left [] bytes h = refl
nothing_left (byte ∷ rest) bytes h = cc

-- behind a text the scan is where it was before
inside_passes : (escaped : Bool) (text bytes : Text) → inside_of escaped text ≡ Some bytes → (depth : ℕ) (rest : Text)
    → cuts (within_text escaped depth) (text ++ rest) ≡ front text (cuts (place.Open depth) rest)
inside_passes escaped [] bytes h depth rest = cc
inside_passes true (byte ∷ text) bytes h depth rest =
    let more = onto_some (escape_of byte) (inside_of false text) bytes h in
    ap (put_byte byte) (inside_passes false text more.0 more.1 depth rest)
inside_passes false (byte ∷ text) bytes h depth rest =
    go (byte == 34) refl (byte == 92) refl (byte == 10) (λ b more is. inside_passes b text more is depth rest) h
  where
    go : (q : Bool) → (byte == 34) ≡ q → (s : Bool) → (byte == 92) ≡ s → (n : Bool)
        → ((b : Bool) (more : Text) → inside_of b text ≡ Some more → cuts (within_text b depth) (text ++ rest) ≡ front text (cuts (place.Open depth) rest))
        → (if q then nothing_behind text else (if s then inside_of true text else (if n then None else onto (Some byte) (inside_of false text)))) ≡ Some bytes
        → put_byte byte (cuts (if q then place.Open depth else (if s then place.Escaped depth else place.Quoted depth)) (text ++ rest))
        ≡ front (byte ∷ text) (cuts (place.Open depth) rest)
    go true e s f n again h =
        let empty = nothing_left text bytes h in
        ap (λ t. put_byte byte (cuts (place.Open depth) (t ++ rest))) empty ∙ ap (λ t. put_byte byte (front t (cuts (place.Open depth) rest))) (sym empty)
    go false e true f n again h = ap (put_byte byte) (again true bytes h)
    go false e false f true again h = cc
    go false e false f false again h =
        let more = onto_some (Some byte) (inside_of false text) bytes h in
        ap (put_byte byte) (again false more.0 more.1)

-- a quote stands last
inside_ends : (escaped : Bool) (text bytes : Text) → inside_of escaped text ≡ Some bytes → (before : Text) × (text ≡ before ++ 34 ∷ [])
inside_ends escaped [] bytes h = cc
inside_ends true (byte ∷ text) bytes h =
    let more = onto_some (escape_of byte) (inside_of false text) bytes h in
    let last = inside_ends false text more.0 more.1 in
    (byte ∷ last.0, ap (λ x. byte ∷ x) last.1)
inside_ends false (byte ∷ text) bytes h =
    go (byte == 34) refl (byte == 92) (byte == 10) (λ b more is. inside_ends b text more is) h
  where
    go : (q : Bool) → (byte == 34) ≡ q → (s n : Bool)
        → ((b : Bool) (more : Text) → inside_of b text ≡ Some more → (before : Text) × (text ≡ before ++ 34 ∷ []))
        → (if q then nothing_behind text else (if s then inside_of true text else (if n then None else onto (Some byte) (inside_of false text)))) ≡ Some bytes
        → (before : Text) × (byte ∷ text ≡ before ++ 34 ∷ [])
    go true e s n again h = ([], ap₂ (λ x y. x ∷ y) (same 34 byte e) (nothing_left text bytes h))
    go false e true n again h = let last = again true bytes h in (byte ∷ last.0, ap (λ x. byte ∷ x) last.1)
    go false e false true again h = cc
    go false e false false again h =
        let more = onto_some (Some byte) (inside_of false text) bytes h in
        let last = again false more.0 more.1 in
        (byte ∷ last.0, ap (λ x. byte ∷ x) last.1)

pub quoted_text : (text bytes : Text) → text_of text ≡ Some bytes → (rest : Text) × (text ≡ 34 ∷ rest) × (inside_of false rest ≡ Some bytes)
quoted_text [] bytes h = cc
quoted_text (byte ∷ rest) bytes h = go (byte == 34) refl (was_kept is_utf8 (between_quotes (byte ∷ rest)) bytes h) where
  go : (b : Bool) → (byte == 34) ≡ b → (if b then inside_of false rest else None) ≡ Some bytes
      → (more : Text) × (byte ∷ rest ≡ 34 ∷ more) × (inside_of false more ≡ Some bytes)
  go true e h = (rest, ap (λ x. x ∷ rest) (same 34 byte e), h)
  go false e h = cc

text_fine : (text bytes : Text) → text_of text ≡ Some bytes → Fine text
text_fine text bytes h =
    let quoted = quoted_text text bytes h in
    let last = inside_ends false quoted.0 bytes quoted.2 in
    subst Fine (sym quoted.1) (record {
      begins = refl;
      closed = ap (λ x. ends (34 ∷ x)) last.1 ∙ closed_by (34 ∷ last.0) 34 refl;
      passes = λ depth rest. quote_opens depth (quoted.0 ++ rest) ∙ ap (put_byte 34) (inside_passes false quoted.0 bytes quoted.2 depth rest);
    })

-- ---- types

abbrev pub AllPorts : List PortType → Type 0
AllPorts [] = Unit {0}
AllPorts (port ∷ ports) = IsTrue (is_port port) × AllPorts ports

abbrev pub IsNew : {A : Type 0} → Text → List (Text × A) → Type 0
IsNew label others = is_new label others ≡ true

abbrev pub AllFields : List (Text × PortType) → Type 0
AllFields [] = Unit {0}
AllFields (port ∷ ports) = (is_label port.0 ≡ true) × IsNew port.0 ports × IsTrue (is_port port.1) × AllFields ports

pub all_ports : (ports : List PortType) → list_all (λ part. part) (map is_port ports) ≡ true → AllPorts ports
all_ports [] h = tt
all_ports (port ∷ ports) h = (and_left (is_port port) _ h, all_ports ports (and_right (is_port port) _ h))

pub each_port : {A : Type 0} (port : PortType) → IsTrue (is_port port) → (parts : List A) → AllPorts (replicate (length parts) port)
each_port port h [] = tt
each_port port h (first ∷ parts) = (h, each_port port h parts)

abbrev pub test_field : Text × PortType → Text × Bool
test_field f = (f.0, is_port f.1)

still_new : (label : Text) (ports : List (Text × PortType)) → is_new label (map test_field ports) ≡ is_new label ports
still_new label [] = refl
still_new label (port ∷ ports) = ap (λ b. not (bytes_eq label port.0) && b) (still_new label ports)

both_fields : (ports : List (Text × PortType)) → are_labels (map test_field ports) ≡ true → list_all (λ (f : Text × Bool). f.1) (map test_field ports) ≡ true → AllFields ports
both_fields [] h k = tt
both_fields (port ∷ ports) h k =
    let first = and_left (is_label port.0 && is_new port.0 (map test_field ports)) _ h in (
      and_left (is_label port.0) _ first,
      sym (still_new port.0 ports) ∙ and_right (is_label port.0) _ first,
      and_left (is_port port.1) _ k,
      both_fields ports (and_right (is_label port.0 && is_new port.0 (map test_field ports)) _ h) (and_right (is_port port.1) _ k),
    )

pub all_fields : (ports : List (Text × PortType)) → (are_labels (map test_field ports) && list_all (λ (f : Text × Bool). f.1) (map test_field ports)) ≡ true → AllFields ports
all_fields ports h = both_fields ports (and_left (are_labels (map test_field ports)) _ h) (and_right (are_labels (map test_field ports)) _ h)

abbrev pub IsLayer : type.PortType-F PortType → Type 0
IsLayer layer = port_step (map-PortType PortType Bool is_port layer) ≡ true

pub layer_of : (port : PortType) → IsTrue (is_port port) → IsLayer (out-PortType port)
layer_of port h = sym (fold_out-PortType Bool port_step port) ∙ h

-- ---- labels

pub label_names : (label : Text) → is_label label ≡ true → list_all is_name_byte label ≡ true
label_names [] h = refl
label_names (byte ∷ label) h = h

label_starts : (label : Text) → is_label label ≡ true → (rest : Text) → starts (label ++ rest) ≡ true
label_starts [] h rest = absurd (true≢false (sym h))
label_starts (byte ∷ label) h rest = ap not (apart is_name_byte 32 byte refl (and_left (is_name_byte byte) (list_all is_name_byte label) h))

equals_pass : Passes (61 ∷ [])
equals_pass = all_pass (λ byte. byte == 61) (refl, refl, refl, refl, refl, refl, refl, refl) (61 ∷ []) refl

field_fine : (label before behind inside text : Text) → is_label label ≡ true → AreSpaces before → AreSpaces behind → Fine inside
    → text ≡ label ++ (before ++ 61 ∷ (behind ++ inside)) → Fine text
field_fine label before behind inside text l h k fine is = subst Fine (sym is) (record {
  begins = label_starts label l (before ++ 61 ∷ (behind ++ inside));
  closed = ends_behind label (before ++ 61 ∷ (behind ++ inside)) (ends_behind before (61 ∷ (behind ++ inside)) (ends_behind (61 ∷ behind) inside fine.closed));
  passes = both_pass label (before ++ 61 ∷ (behind ++ inside)) (names_pass label (label_names label l))
      (both_pass before (61 ∷ (behind ++ inside)) (spaces_pass before h)
      (both_pass (61 ∷ []) (behind ++ inside) equals_pass (both_pass behind inside (spaces_pass behind k) fine.passes)));
})

just_fine : (spaces inside text : Text) → AreSpaces spaces → Fine inside → text ≡ codes "Just" ++ (spaces ++ inside) → Fine text
just_fine spaces inside text h fine is = subst Fine (sym is) (record {
  begins = refl;
  closed = ends_behind (codes "Just") (spaces ++ inside) (ends_behind spaces inside fine.closed);
  passes = both_pass (codes "Just") (spaces ++ inside) (names_pass (codes "Just") refl) (both_pass spaces inside (spaces_pass spaces h) fine.passes);
})

put_fine : (before back : List Text) (text : Text) → Fine text → AllFine (before ++ back) → AllFine (before ++ text ∷ back)
put_fine [] back text f h = (f, h)
put_fine (first ∷ before) back text f h = (h.0, put_fine before back text f h.1)

pub reordered_fine : (texts written : List Text) → Reordered texts written → AllFine texts → AllFine written
reordered_fine _ _ none h = tt
reordered_fine _ _ (put text before back others r) h = put_fine before back text h.0 (reordered_fine others (before ++ back) r h.1)

mutual
  pub fine : (room : ℕ) (port : PortType) (given : PortValue) (text : Text) → Spells room port given text → IsTrue (is_port port) → Fine text
  fine _ _ _ _ (form room port given text f) h = form_fine room (out-PortType port) (out-PortValue given) text f (layer_of port h)
  fine _ _ _ _ (brackets room port given inside text s e) h =
      fine_enclosed 40 41 round refl refl inside text (within_brackets inside (fine room port given inside s h).passes) e

  pub form_fine : (room : ℕ) (layer : type.PortType-F PortType) (given : value.PortValue-F PortValue) (text : Text)
      → Forms room layer given text → IsLayer layer → Fine text
  form_fine _ _ _ _ (unit room text is) h = fine_enclosed 40 41 round refl refl [] text (λ depth rest. refl) (unit_encloses text is)
  form_fine _ _ _ _ (int room number text is) h =
      let bytes = int_bytes text number is in
      fine_bytes in_number (refl, refl, refl, refl, refl, refl, refl, refl) refl text bytes.0 bytes.1
  form_fine _ _ _ _ (truth room is text e) h =
      let bytes = truth_bytes text is e in
      fine_bytes is_name_byte (refl, refl, refl, refl, refl, refl, refl, refl) refl text bytes.0 bytes.1
  form_fine _ _ _ _ (quotes room bytes text is) h = text_fine text bytes is
  form_fine _ _ _ _ (nothing room port text is) h =
      subst Fine (sym is) (fine_bytes is_name_byte (refl, refl, refl, refl, refl, refl, refl, refl) refl (codes "Nothing") refl refl)
  form_fine _ _ _ _ (just room port given spaces inside text are word s is) h = just_fine spaces inside text are (fine room port given inside s h) is
  form_fine _ _ _ _ (list room port givens texts inside text each lists e) h =
      fine_enclosed 91 93 square refl refl inside text (lists_pass texts inside lists (each_fine room (replicate (length givens) port) givens texts each (each_port port h givens))) e
  form_fine _ _ _ _ (tuple room ports givens texts inside text each lists e) h =
      fine_enclosed 40 41 round refl refl inside text
      (lists_pass texts inside lists (each_fine room ports givens texts each (all_ports ports (and_right (are_several (map is_port ports)) _ h)))) e
  form_fine _ _ _ _ (fields room ports givens texts written inside text each order lists e) h =
      fine_enclosed 123 125 curly refl refl inside text
      (lists_pass written inside lists (reordered_fine texts written order (fields_fine room ports givens texts each (all_fields ports h)))) e

  pub each_fine : (room : ℕ) (ports : List PortType) (givens : List PortValue) (texts : List Text) → SpellEach room ports givens texts → AllPorts ports → AllFine texts
  each_fine _ _ _ _ (done room) h = tt
  each_fine _ _ _ _ (part room port given text ports givens texts s each) h = (fine room port given text s h.0, each_fine room ports givens texts each h.1)

  pub fields_fine : (room : ℕ) (ports : List (Text × PortType)) (givens : List (Text × PortValue)) (texts : List Text)
      → SpellFields room ports givens texts → AllFields ports → AllFine texts
  fields_fine _ _ _ _ (no_field room) h = tt
  fields_fine _ _ _ _ (field room label port given before behind inside text ports givens texts b c s is each) h =
      (field_fine label before behind inside text h.0 b c (fine room port given inside s h.2) is, fields_fine room ports givens texts each h.3)
