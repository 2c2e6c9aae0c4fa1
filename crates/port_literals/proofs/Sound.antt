-- Whatever is read is a literal, and its value is the one that was read.
use Rattle.std.proofs.Common.{◌≡◌, ◌==◌, ℕ, zero, suc, Bool, ◌⊎◌, inl, inr, true, false, true≢false, not, IsTrue, if◌then◌else◌, arith, List, [], ◌∷◌, ◌++◌, map, length, replicate, codes, Option, Some, None, refl, sym, ◌∙◌, ap, ap₂, subst}
use Rattle.std.specs.Option.{option_map}
use Rattle.std.specs.Str.{bytes_eq}
use Rattle.std.proofs.lemmas.List.{append_assoc}
use Rattle.std.proofs.lemmas.Slice.Eq.{bytes_eq-Decides}
use Rattle.elm_base.specs.Letters.{is_name_byte}
use Rattle.elm_base.specs.Spaces.{trim_start}
use Rattle.elm_base.specs.declared.event.PortType.{PortType, map-PortType, roll-PortType}
use Rattle.elm_base.specs.declared.event.PortType.TheOpen as type
use Rattle.elm_base.specs.declared.event.PortType.TheFolds.{fold-roll-PortType, ind-PortType}
use Rattle.elm_base.specs.declared.event.PortValue.{PortValue, out-PortValue}
use Rattle.elm_base.specs.declared.event.PortValue.TheVariants as made
use Rattle.port_values.specs.Leaves.{int_of, is_unit, truth_of, text_of}
use Rattle.port_values.specs.Literals.{Text, AreSpaces, ends_word, Encloses, Joined, last, then_more, Lists, Reordered, none, put, Spells, form, brackets, Forms, unit, int, truth, quotes, nothing, just, list, tuple, fields, SpellEach, done, part, SpellFields, no_field, field}
use Rattle.port_literals.specs.declared.scan.Place.{Place}
use Rattle.port_literals.specs.declared.scan.Place.TheVariants as place
use Rattle.port_literals.specs.Ports.{is_new, are_several, port_step, is_port}
use Rattle.port_literals.specs.Parts.{after, parts_at, cuts, trim, parts_unless, parts_of}
use Rattle.port_literals.specs.Parts.{put as put_byte}
use Rattle.port_literals.specs.Reader.{Reader, between, are_own, bracketed_by, bracketed, behind, just_of, put_first, read_each, read_all, name_and_rest, behind_equals, field_of, first_of_two, at_label, read_some, put_field, read_fields, whole_fields, read_parts, within, read_step, read}
use Rattle.port_literals.specs.Reader.{form as read_form}
use Rattle.port_literals.specs.Steps.{reader_field}
use Rattle.port_literals.proofs.Texts.{and_left, and_right, same, start_cut, trim_cut, found_enclosed}
use Rattle.port_literals.proofs.Values.{type_again}
use Rattle.port_literals.proofs.Closed.{AllPorts, AllFields, all_ports, all_fields, IsLayer}
use Rattle.port_literals.proofs.Complete.{turned, passed_over}

some_is : {A : Type 0} (x y : A) → Some x ≡ Some y → x ≡ y
some_is x y h = cc

mapped_some : {A B : Type 0} (f : A → B) (found : Option A) (y : B) → option_map f found ≡ Some y → (x : A) × (found ≡ Some x) × (f x ≡ y)
mapped_some f None y h = cc
mapped_some f (Some x) y h = (x, refl, some_is (f x) y h)

-- ---- parts are joined

abbrev Cut : Place → Text → Type 0
Cut at text = (cuts at text ≡ text ∷ []) ⊎ ((first rest : Text) × (text ≡ first ++ 44 ∷ rest) × (cuts at text ≡ first ∷ cuts (place.Open 0) rest))

parts_a_comma : (at : Place) (byte : ℕ) → parts_at at byte ≡ true → byte ≡ 44
parts_a_comma (place.Open zero) byte h = same 44 byte h
parts_a_comma (place.Open (suc depth)) byte h = absurd (true≢false (sym h))
parts_a_comma (place.Quoted depth) byte h = absurd (true≢false (sym h))
parts_a_comma (place.Escaped depth) byte h = absurd (true≢false (sym h))

cut_of : (text : Text) (at : Place) → Cut at text
cut_of [] at = inl refl
cut_of (byte ∷ text) at = go (parts_at at byte) refl (cut_of text (after at byte)) where
  go : (b : Bool) → parts_at at byte ≡ b → Cut (after at byte) text
      → ((if b then [] ∷ cuts (place.Open 0) text else put_byte byte (cuts (after at byte) text)) ≡ (byte ∷ text) ∷ [])
      ⊎ ((first rest : Text) × (byte ∷ text ≡ first ++ 44 ∷ rest) × ((if b then [] ∷ cuts (place.Open 0) text else put_byte byte (cuts (after at byte) text)) ≡ first ∷ cuts (place.Open 0) rest))
  go true e more = inr ([], text, ap (λ x. x ∷ text) (parts_a_comma at byte e), refl)
  go false e more = elim more [
    | inl h ↦ inl (ap (put_byte byte) h)
    | inr h ↦ inr (byte ∷ h.0, h.1, ap (λ x. byte ∷ x) h.2, ap (put_byte byte) h.3)
  ]

-- a text is its parts, joined, between spaces
abbrev JoinedIn : List Text → Text → Type 0
JoinedIn texts text = (a inside z : Text) × AreSpaces a × AreSpaces z × (text ≡ a ++ (inside ++ z)) × Joined texts inside

first_is : (x y : Text) (xs ys : List Text) → x ∷ xs ≡ y ∷ ys → x ≡ y
first_is x y xs ys h = cc

others_are : (x y : Text) (xs ys : List Text) → x ∷ xs ≡ y ∷ ys → xs ≡ ys
others_are x y xs ys h = cc

joined_one : (text : Text) → JoinedIn (trim text ∷ []) text
joined_one text =
    let cut = trim_cut text in
    (cut.0, trim text, cut.1, cut.2, cut.3, cut.4, last (trim text))

joined_more : (first rest text : Text) (others : List Text) → text ≡ first ++ 44 ∷ rest → JoinedIn others rest → JoinedIn (trim first ∷ others) text
joined_more first rest text others is (a, inside, z, h, k, parts, joined) =
    let cut = trim_cut first in (
      cut.0,
      trim first ++ (cut.1 ++ 44 ∷ (a ++ inside)),
      z,
      cut.2,
      k,
      is ∙ ap₂ (λ x y. x ++ 44 ∷ y) cut.4 parts
          ∙ append_assoc cut.0 (trim first ++ cut.1) (44 ∷ (a ++ (inside ++ z)))
          ∙ ap (λ x. cut.0 ++ x) (append_assoc (trim first) cut.1 (44 ∷ (a ++ (inside ++ z)))
          ∙ ap (λ x. trim first ++ (cut.1 ++ 44 ∷ x)) (sym (append_assoc a inside z))
          ∙ ap (λ x. trim first ++ x) (sym (append_assoc cut.1 (44 ∷ (a ++ inside)) z))
          ∙ sym (append_assoc (trim first) (cut.1 ++ 44 ∷ (a ++ inside)) z)),
      then_more (trim first) others cut.1 a inside _ cut.3 h joined refl,
    )

joined_back : (parts : List Text) (text : Text) → cuts (place.Open 0) text ≡ parts → JoinedIn (map trim parts) text
joined_back [] text h = elim (cut_of text (place.Open 0)) [ inl k ↦ absurd (no_texts text [] (sym k ∙ h)) | inr k ↦ absurd (no_texts k.0 _ (sym k.3 ∙ h)) ] where
  no_texts : (x : Text) (xs : List Text) → x ∷ xs ≡ [] → ⊥
  no_texts x xs h = cc
joined_back (part_ ∷ parts) text h =
    elim (cut_of text (place.Open 0)) [
      | inl k ↦ subst (λ x. JoinedIn (map trim x) text) (sym k ∙ h) (joined_one text)
      | inr k ↦ subst (λ x. JoinedIn (trim x ∷ map trim parts) text) (first_is k.0 part_ _ parts (sym k.3 ∙ h))
          (joined_more k.0 k.1 text (map trim parts) k.2 (joined_back parts k.1 (others_are k.0 part_ _ parts (sym k.3 ∙ h))))
    ]

listed_back : (t text : Text) → trim_start text ≡ t → (a inside z : Text) × AreSpaces a × AreSpaces z × (text ≡ a ++ (inside ++ z)) × Lists (parts_unless t text) inside
listed_back [] text h =
    let cut = start_cut text in
    (cut.0, [], [], cut.1, refl, cut.2 ∙ ap (λ x. cut.0 ++ x) h, refl)
listed_back (byte ∷ t) text h = go (cuts (place.Open 0) text) (cut_of text (place.Open 0)) (joined_back (cuts (place.Open 0) text) text refl) where
  go : (parts : List Text) → Cut (place.Open 0) text → JoinedIn (map trim parts) text
      → (a inside z : Text) × AreSpaces a × AreSpaces z × (text ≡ a ++ (inside ++ z)) × Lists (map trim parts) inside
  go [] c (a, inside, z, h, k, is, j) = elim j [ ]
  go (first ∷ others) c j = j

-- what is between brackets is enclosed, part by part
parts_enclosed : (open_ close : ℕ) (text middle : Text) → between open_ close text ≡ Some middle
    → (inside : Text) × Lists (parts_of middle) inside × Encloses open_ close inside text
parts_enclosed open_ close text middle h =
    let back = listed_back (trim_start middle) middle refl in
    (back.1, back.6, found_enclosed open_ close text back.0 back.1 back.2 (h ∙ ap (λ x. Some x) back.5) back.3 back.4)

parts_read : {A : Type 0} (read_texts : List Text → Option A) (found : Option Text) (x : A) → read_parts read_texts found ≡ Some x
    → (middle : Text) × (found ≡ Some middle) × (read_texts (parts_of middle) ≡ Some x)
parts_read read_texts None x h = cc
parts_read read_texts (Some middle) x h = (middle, refl, h)

-- ---- each type

abbrev pub Sound : PortType → Type 0
Sound port = (room : ℕ) (text : Text) (given : PortValue) → IsTrue (is_port port) → read port room text ≡ Some given → Spells room port given text

abbrev SoundPart : Type 0
SoundPart = (port : PortType) × Sound port

put_some : (first : Option PortValue) (others : Option (List PortValue)) (givens : List PortValue) → put_first first others ≡ Some givens
    → (given : PortValue) × (more : List PortValue) × (first ≡ Some given) × (others ≡ Some more) × (given ∷ more ≡ givens)
put_some None others givens h = cc
put_some (Some first) None givens h = cc
put_some (Some first) (Some others) givens h = (first, others, refl, refl, some_is (first ∷ others) givens h)

each_sound : (y : SoundPart) → IsTrue (is_port y.0) → (room : ℕ) (texts : List Text) (givens : List PortValue) → read_each (read y.0) room texts ≡ Some givens
    → SpellEach room (replicate (length givens) y.0) givens texts
each_sound y h room [] givens k = subst (λ g. SpellEach room (replicate (length g) y.0) g []) (some_is [] givens k) (done room)
each_sound y h room (text ∷ texts) givens k =
    let s = put_some (read y.0 room text) (read_each (read y.0) room texts) givens k in
    subst (λ g. SpellEach room (replicate (length g) y.0) g (text ∷ texts)) s.4
    (part room y.0 s.0 text (replicate (length s.1) y.0) s.1 texts (y.1 room text s.0 h s.2) (each_sound y h room texts s.1 s.3))

abbrev port_of : SoundPart → PortType
port_of y = y.0

all_sound : (ys : List SoundPart) → AllPorts (map port_of ys) → (room : ℕ) (texts : List Text) (givens : List PortValue) → read_all (map read (map port_of ys)) room texts ≡ Some givens
    → SpellEach room (map port_of ys) givens texts
all_sound [] h room [] givens k = subst (λ g. SpellEach room [] g []) (some_is [] givens k) (done room)
all_sound [] h room (text ∷ texts) givens k = cc
all_sound (y ∷ ys) h room [] givens k = cc
all_sound (y ∷ ys) h room (text ∷ texts) givens k =
    let s = put_some (read y.0 room text) (read_all (map read (map port_of ys)) room texts) givens k in
    subst (λ g. SpellEach room (y.0 ∷ map port_of ys) g (text ∷ texts)) s.4
    (part room y.0 s.0 text (map port_of ys) s.1 texts (y.1 room text s.0 h.0 s.2) (all_sound ys h.1 room texts s.1 s.3))

-- ---- fields

abbrev SoundField : Type 0
SoundField = Text × SoundPart

abbrev port_field : SoundField → Text × PortType
port_field y = (y.0, y.1.0)

abbrev reader_of : SoundField → Text × Reader
reader_of y = (y.0, read y.1.0)

at_split : (label : Text) (texts : List Text) (inside : Text) → at_label label texts ≡ Some inside
    → (before : List Text) × (text : Text) × (back : List Text) × (texts ≡ before ++ text ∷ back) × (field_of label text ≡ Some inside)
at_split label [] inside h = cc
at_split label (first ∷ others) inside h = go (field_of label first) refl (λ k. at_split label others inside k) h where
  go : (found : Option Text) → field_of label first ≡ found
      → (at_label label others ≡ Some inside → (before : List Text) × (text : Text) × (back : List Text) × (others ≡ before ++ text ∷ back) × (field_of label text ≡ Some inside))
      → first_of_two found (at_label label others) ≡ Some inside
      → (before : List Text) × (text : Text) × (back : List Text) × (first ∷ others ≡ before ++ text ∷ back) × (field_of label text ≡ Some inside)
  go None e more h = let s = more h in (first ∷ s.0, s.1, s.2, ap (λ x. first ∷ x) s.3, s.4)
  go (Some found) e more h = ([], first, others, refl, e ∙ h)

abbrev name_step : Bool → ℕ → Text → Text × Text
name_step b byte rest = if b then (byte ∷ (name_and_rest rest).0, (name_and_rest rest).1) else ([], byte ∷ rest)

name_joined : (text : Text) → text ≡ (name_and_rest text).0 ++ (name_and_rest text).1
name_joined [] = refl
name_joined (byte ∷ rest) = go (is_name_byte byte) (name_joined rest) where
  go : (b : Bool) → rest ≡ (name_and_rest rest).0 ++ (name_and_rest rest).1 → byte ∷ rest ≡ (name_step b byte rest).0 ++ (name_step b byte rest).1
  go true h = ap (λ x. byte ∷ x) h
  go false h = refl

equals_cut : (rest inside : Text) → behind_equals (trim_start rest) ≡ Some inside
    → (before behind_it : Text) × AreSpaces before × AreSpaces behind_it × (rest ≡ before ++ 61 ∷ (behind_it ++ inside))
equals_cut rest inside h = go (trim_start rest) (start_cut rest) h where
  go : (t : Text) → (a : Text) × AreSpaces a × (rest ≡ a ++ t) → behind_equals t ≡ Some inside
      → (before behind_it : Text) × AreSpaces before × AreSpaces behind_it × (rest ≡ before ++ 61 ∷ (behind_it ++ inside))
  go [] cut h = cc
  go (byte ∷ t) cut h = stop (byte == 61) refl h where
    stop : (b : Bool) → (byte == 61) ≡ b → (if b then Some (trim_start t) else None) ≡ Some inside
        → (before behind_it : Text) × AreSpaces before × AreSpaces behind_it × (rest ≡ before ++ 61 ∷ (behind_it ++ inside))
    stop false e h = cc
    stop true e h =
        let more = start_cut t in
        (cut.0, more.0, cut.1, more.1, cut.2 ∙ ap₂ (λ x y. cut.0 ++ x ∷ y) (same 61 byte e) (more.2 ∙ ap (λ x. more.0 ++ x) (some_is (trim_start t) inside h)))

field_shape : (label text inside : Text) → field_of label text ≡ Some inside
    → (label ≡ (name_and_rest text).0) × ((before behind_it : Text) × AreSpaces before × AreSpaces behind_it × (text ≡ label ++ (before ++ 61 ∷ (behind_it ++ inside))))
field_shape label text inside h = go (bytes_eq label (name_and_rest text).0) refl h where
  go : (b : Bool) → bytes_eq label (name_and_rest text).0 ≡ b → (if b then behind_equals (trim_start (name_and_rest text).1) else None) ≡ Some inside
      → (label ≡ (name_and_rest text).0) × ((before behind_it : Text) × AreSpaces before × AreSpaces behind_it × (text ≡ label ++ (before ++ 61 ∷ (behind_it ++ inside))))
  go false e h = cc
  go true e h =
      let is = (bytes_eq-Decides label (name_and_rest text).0).0 e in
      let cut = equals_cut (name_and_rest text).1 inside h in
      (is, (cut.0, cut.1, cut.2, cut.3, name_joined text ∙ ap₂ (λ x y. x ++ y) (sym is) cut.4))

differs : (x : Bool) → not x ≡ true → x ≡ false
differs true k = sym k
differs false k = refl

-- fields of other labels are read alike without a text
without : (label text inside : Text) (before back : List Text) → field_of label text ≡ Some inside → (ys : List SoundField) → is_new label (map port_field ys) ≡ true → (room : ℕ)
    → read_fields (map reader_of ys) room (before ++ text ∷ back) ≡ read_fields (map reader_of ys) room (before ++ back)
without label text inside before back found [] new room = refl
without label text inside before back found (y ∷ ys) new room =
    ap₂ (λ x more. put_field y.0 (read_some (read y.1.0) room x) more)
    (passed_over y.0 text before back
    (ap (λ b. if b then behind_equals (trim_start (name_and_rest text).1) else None)
    (ap (bytes_eq y.0) (sym (field_shape label text inside found).0) ∙ turned label y.0 (differs (bytes_eq label y.0) (and_left (not (bytes_eq label y.0)) _ new)))))
    (without label text inside before back found ys (and_right (not (bytes_eq label y.0)) _ new) room)

put_field_some : (label : Text) (first : Option PortValue) (others : Option (List (Text × PortValue))) (givens : List (Text × PortValue)) → put_field label first others ≡ Some givens
    → (given : PortValue) × (more : List (Text × PortValue)) × (first ≡ Some given) × (others ≡ Some more) × ((label, given) ∷ more ≡ givens)
put_field_some label None others givens h = cc
put_field_some label (Some first) None givens h = cc
put_field_some label (Some first) (Some others) givens h = (first, others, refl, refl, some_is ((label, first) ∷ others) givens h)

some_text : (reader : Reader) (room : ℕ) (found : Option Text) (given : PortValue) → read_some reader room found ≡ Some given
    → (inside : Text) × (found ≡ Some inside) × (reader room inside ≡ Some given)
some_text reader room None given h = cc
some_text reader room (Some inside) given h = (inside, refl, h)

one_longer : (text : Text) (before back : List Text) → length (before ++ text ∷ back) ≡ suc (length (before ++ back))
one_longer text [] back = refl
one_longer text (first ∷ before) back = ap suc (one_longer text before back)

one_less : (n m : ℕ) → suc n ≡ suc m → n ≡ m
one_less n m h = omega (arith, h)

fields_sound : (ys : List SoundField) → AllFields (map port_field ys) → (room : ℕ) (texts : List Text) (givens : List (Text × PortValue)) → length (map reader_of ys) ≡ length texts
    → read_fields (map reader_of ys) room texts ≡ Some givens
    → (ordered : List Text) × SpellFields room (map port_field ys) givens ordered × Reordered ordered texts
fields_sound [] h room [] givens many k = ([], subst (λ g. SpellFields room [] g []) (some_is [] givens k) (no_field room), none)
fields_sound [] h room (text ∷ texts) givens many k = absurd (omega (arith, many))
fields_sound (y ∷ ys) h room texts givens many k =
    let s = put_field_some y.0 (read_some (read y.1.0) room (at_label y.0 texts)) (read_fields (map reader_of ys) room texts) givens k in
    let t = some_text (read y.1.0) room (at_label y.0 texts) s.0 s.2 in
    let p = at_split y.0 texts t.0 t.1 in
    let shape = (field_shape y.0 p.1 t.0 p.4).1 in
    let more = fields_sound ys h.3 room (p.0 ++ p.2) s.1 (one_less _ _ (many ∙ ap length p.3 ∙ one_longer p.1 p.0 p.2))
    (sym (without y.0 p.1 t.0 p.0 p.2 p.4 ys h.1 room) ∙ ap (read_fields (map reader_of ys) room) (sym p.3) ∙ s.3) in (
      p.1 ∷ more.0,
      subst (λ g. SpellFields room (port_field y ∷ map port_field ys) g (p.1 ∷ more.0)) s.4
          (field room y.0 y.1.0 s.0 shape.0 shape.1 t.0 p.1 (map port_field ys) s.1 more.0 shape.2 shape.3 (y.1.1 room t.0 s.0 h.2 t.2) shape.4 more.1),
      subst (Reordered (p.1 ∷ more.0)) (sym p.3) (put p.1 p.0 p.2 more.0 more.2),
    )

-- ---- the forms

abbrev Layer : Type 0
Layer = type.PortType-F SoundPart

abbrev ports : Layer → type.PortType-F PortType
ports y = map-PortType SoundPart PortType port_of y

abbrev readers : type.PortType-F PortType → type.PortType-F Reader
readers x = map-PortType PortType Reader read x

abbrev Gives : Layer → ℕ → Text → PortValue → Type 0
Gives y room text given = read_form (readers (ports y)) room text ≡ Some given

abbrev Stands : Layer → ℕ → Text → PortValue → Type 0
Stands y room text given = Forms room (ports y) (out-PortValue given) text

unit_stands : (room : ℕ) (text : Text) (given : PortValue) → Gives type.Unit (suc room) text given → Stands type.Unit (suc room) text given
unit_stands room text given h = go (is_unit text) refl h where
  go : (b : Bool) → is_unit text ≡ b → (if b then Some made.Unit else None) ≡ Some given → Forms (suc room) type.Unit (out-PortValue given) text
  go false e h = cc
  go true e h = subst (λ v. Forms (suc room) type.Unit v text) (sym made.outs-Unit ∙ ap out-PortValue (some_is made.Unit given h)) (unit room text e)

behind_is : (start text rest : Text) → behind start text ≡ Some rest → text ≡ start ++ rest
behind_is [] text rest h = some_is text rest h
behind_is (byte ∷ start) [] rest h = cc
behind_is (byte ∷ start) (first ∷ text) rest h = go (byte == first) refl (λ k. behind_is start text rest k) h where
  go : (b : Bool) → (byte == first) ≡ b → (behind start text ≡ Some rest → text ≡ start ++ rest) → (if b then behind start text else None) ≡ Some rest → first ∷ text ≡ byte ∷ (start ++ rest)
  go false e more h = cc
  go true e more h = ap₂ (λ x y. x ∷ y) (sym (same first byte e)) (more h)

just_stands : (y : SoundPart) → IsTrue (is_port y.0) → (room : ℕ) (text : Text) (given : PortValue) (found : Option Text) → behind (codes "Just") text ≡ found
    → just_of (read y.0) room found ≡ Some given → Stands (type.Maybe y) room text given
just_stands y p room text given None e h = cc
just_stands y p room text given (Some rest) e h = go (ends_word rest) refl h where
  go : (b : Bool) → ends_word rest ≡ b → (if b then option_map made.Just (read y.0 room (trim_start rest)) else None) ≡ Some given
      → Forms room (type.Maybe y.0) (out-PortValue given) text
  go false w h = cc
  go true w h =
      let m = mapped_some made.Just (read y.0 room (trim_start rest)) given h in
      let cut = start_cut rest in
      subst (λ v. Forms room (type.Maybe y.0) v text) (sym (made.outs-Just m.0) ∙ ap out-PortValue m.2)
      (just room y.0 m.0 cut.0 (trim_start rest) text cut.1 (ap ends_word (sym cut.2) ∙ w) (y.1 room (trim_start rest) m.0 p m.1)
      (behind_is (codes "Just") text rest e ∙ ap (λ x. codes "Just" ++ x) cut.2))

maybe_stands : (y : SoundPart) → IsTrue (is_port y.0) → (room : ℕ) (text : Text) (given : PortValue) → Gives (type.Maybe y) room text given → Stands (type.Maybe y) room text given
maybe_stands y p room text given h = go (bytes_eq text (codes "Nothing")) refl h where
  go : (b : Bool) → bytes_eq text (codes "Nothing") ≡ b → (if b then Some made.Nothing else just_of (read y.0) room (behind (codes "Just") text)) ≡ Some given
      → Forms room (type.Maybe y.0) (out-PortValue given) text
  go true e h =
      subst (λ v. Forms room (type.Maybe y.0) v text) (sym made.outs-Nothing ∙ ap out-PortValue (some_is made.Nothing given h))
      (nothing room y.0 text ((bytes_eq-Decides text (codes "Nothing")).0 e))
  go false e h = just_stands y p room text given (behind (codes "Just") text) refl h

list_stands : (y : SoundPart) → IsTrue (is_port y.0) → (room : ℕ) (text : Text) (given : PortValue) → Gives (type.List y) (suc room) text given → Stands (type.List y) (suc room) text given
list_stands y p room text given h =
    let m = mapped_some made.List (read_parts (read_each (read y.0) room) (between 91 93 text)) given h in
    let r = parts_read (read_each (read y.0) room) (between 91 93 text) m.0 m.1 in
    let e = parts_enclosed 91 93 text r.0 r.1 in
    subst (λ v. Forms (suc room) (type.List y.0) v text) (sym (made.outs-List m.0) ∙ ap out-PortValue m.2)
    (list room y.0 m.0 (parts_of r.0) e.0 text (each_sound y p room (parts_of r.0) m.0 r.2) e.1 e.2)

tuple_stands : (ys : List SoundPart) → AllPorts (map port_of ys) → (room : ℕ) (text : Text) (given : PortValue) → Gives (type.Tuple ys) (suc room) text given
    → Stands (type.Tuple ys) (suc room) text given
tuple_stands ys p room text given h =
    let m = mapped_some made.Tuple (read_parts (read_all (map read (map port_of ys)) room) (between 40 41 text)) given h in
    let r = parts_read (read_all (map read (map port_of ys)) room) (between 40 41 text) m.0 m.1 in
    let e = parts_enclosed 40 41 text r.0 r.1 in
    subst (λ v. Forms (suc room) (type.Tuple (map port_of ys)) v text) (sym (made.outs-Tuple m.0) ∙ ap out-PortValue m.2)
    (tuple room (map port_of ys) m.0 (parts_of r.0) e.0 text (all_sound ys p room (parts_of r.0) m.0 r.2) e.1 e.2)

twice : (ys : List SoundField) → map reader_field (map port_field ys) ≡ map reader_of ys
twice [] = refl
twice (y ∷ ys) = ap (λ x. reader_of y ∷ x) (twice ys)

same_number : (a b : ℕ) → (a == b) ≡ true → a ≡ b
same_number a b h = grind (arith, h)

whole_read : (fields_ : List (Text × Reader)) (room : ℕ) (texts : List Text) (givens : List (Text × PortValue)) → whole_fields fields_ room texts ≡ Some givens
    → (length fields_ ≡ length texts) × (read_fields fields_ room texts ≡ Some givens)
whole_read fields_ room texts givens h = go (length fields_ == length texts) refl h where
  go : (b : Bool) → (length fields_ == length texts) ≡ b → (if b then read_fields fields_ room texts else None) ≡ Some givens
      → (length fields_ ≡ length texts) × (read_fields fields_ room texts ≡ Some givens)
  go false e h = cc
  go true e h = (same_number (length fields_) (length texts) e, h)

fields_stand : (ys : List SoundField) → AllFields (map port_field ys) → (room : ℕ) (text : Text) (given : PortValue) → Gives (type.Fields ys) (suc room) text given
    → Stands (type.Fields ys) (suc room) text given
fields_stand ys p room text given h =
    let m = mapped_some made.Fields (read_parts (whole_fields (map reader_of ys) room) (between 123 125 text)) given
    (ap (λ x. option_map made.Fields (read_parts (whole_fields x room) (between 123 125 text))) (sym (twice ys)) ∙ h) in
    let r = parts_read (whole_fields (map reader_of ys) room) (between 123 125 text) m.0 m.1 in
    let e = parts_enclosed 123 125 text r.0 r.1 in
    let w = whole_read (map reader_of ys) room (parts_of r.0) m.0 r.2 in
    let f = fields_sound ys p room (parts_of r.0) m.0 w.0 w.1 in
    subst (λ v. Forms (suc room) (type.Fields (map port_field ys)) v text) (sym (made.outs-Fields m.0) ∙ ap out-PortValue m.2)
    (fields room (map port_field ys) m.0 f.0 (parts_of r.0) e.0 text f.1 f.2 e.1 e.2)

form_stands : (y : Layer) → IsLayer (ports y) → (room : ℕ) (text : Text) (given : PortValue) → Gives y room text given → Stands y room text given
form_stands type.Unit p zero text given h = cc
form_stands type.Unit p (suc room) text given h = unit_stands room text given h
form_stands type.Int p room text given h =
    let m = mapped_some made.Int (int_of text) given h in
    subst (λ v. Forms room type.Int v text) (sym (made.outs-Int m.0) ∙ ap out-PortValue m.2) (int room m.0 text m.1)
form_stands type.Bool p room text given h =
    let m = mapped_some made.Bool (truth_of text) given h in
    subst (λ v. Forms room type.Bool v text) (sym (made.outs-Bool m.0) ∙ ap out-PortValue m.2) (truth room m.0 text m.1)
form_stands type.Text p room text given h =
    let m = mapped_some made.Text (text_of text) given h in
    subst (λ v. Forms room type.Text v text) (sym (made.outs-Text m.0) ∙ ap out-PortValue m.2) (quotes room m.0 text m.1)
form_stands (type.Maybe y) p room text given h = maybe_stands y p room text given h
form_stands (type.List y) p zero text given h = cc
form_stands (type.List y) p (suc room) text given h = list_stands y p room text given h
form_stands (type.Tuple ys) p zero text given h = cc
form_stands (type.Tuple ys) p (suc room) text given h = tuple_stands ys (all_ports (map port_of ys) (and_right (are_several (map is_port (map port_of ys))) _ p)) room text given h
form_stands (type.Fields ys) p zero text given h = cc
form_stands (type.Fields ys) p (suc room) text given h = fields_stand ys (all_fields (map port_field ys) p) room text given h

-- ---- whole values

bracketed_is : (layer : type.PortType-F Reader) (text inside : Text) → bracketed layer text ≡ Some inside → Encloses 40 41 inside text
bracketed_is layer text inside h = go (between 40 41 text) refl h where
  go : (found : Option Text) → between 40 41 text ≡ found → bracketed_by layer found ≡ Some inside → Encloses 40 41 inside text
  go None e h = cc
  go (Some middle) e h = stop (are_own layer (parts_of middle)) h where
    stop : (b : Bool) → (if b then None else Some (trim middle)) ≡ Some inside → Encloses 40 41 inside text
    stop true h = cc
    stop false h =
        let cut = trim_cut middle in
        subst (λ x. Encloses 40 41 x text) (some_is (trim middle) inside h)
        (found_enclosed 40 41 text cut.0 (trim middle) cut.1 (e ∙ ap (λ x. Some x) cut.4) cut.2 cut.3)

plain_stands : (y : Layer) → IsLayer (ports y) → (room : ℕ) (text : Text) (given : PortValue) → Gives y room text given → Spells room (roll-PortType (ports y)) given text
plain_stands y p room text given h =
    form room (roll-PortType (ports y)) given text (subst (λ x. Forms room x (out-PortValue given) text) (sym (type_again (ports y))) (form_stands y p room text given h))

step_sound : (y : Layer) → IsLayer (ports y) → (room : ℕ) (text : Text) (given : PortValue) → read_step (readers (ports y)) room text ≡ Some given
    → Spells room (roll-PortType (ports y)) given text
step_sound y p zero text given h = plain_stands y p zero text given h
step_sound y p (suc room) text given h = go (bracketed (readers (ports y)) text) refl (λ inside k. step_sound y p room inside given k) h where
  go : (found : Option Text) → bracketed (readers (ports y)) text ≡ found
      → ((inside : Text) → read_step (readers (ports y)) room inside ≡ Some given → Spells room (roll-PortType (ports y)) given inside)
      → within found (λ inside. read_step (readers (ports y)) room inside) (read_form (readers (ports y)) (suc room) text) ≡ Some given
      → Spells (suc room) (roll-PortType (ports y)) given text
  go None e more h = plain_stands y p (suc room) text given h
  go (Some inside) e more h = brackets room (roll-PortType (ports y)) given inside text (more inside h) (bracketed_is (readers (ports y)) text inside e)

layer_sound : (y : Layer) → Sound (roll-PortType (ports y))
layer_sound y room text given p h =
    step_sound y (sym (fold-roll-PortType Bool port_step (ports y)) ∙ p) room text given (sym (ap (λ r. r room text) (fold-roll-PortType Reader read_step (ports y))) ∙ h)

-- what is read is a literal
pub sound : (port : PortType) → Sound port
sound = ind-PortType Sound (λ x y is. subst (λ z. Sound (roll-PortType z)) is (layer_sound y))
