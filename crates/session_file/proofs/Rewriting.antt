-- A session that bytes spell may be written again.
use Rattle.std.proofs.Common.{◌≡◌, ◌≤◌, ℕ, zero, suc, Bool, true, false, true≢false, not, if◌then◌else◌, List, [], ◌∷◌, length, Some, refl, sym, ◌∙◌, ap, subst}
use Rattle.std.specs.Prelude.{slice_get}
use Rattle.std.specs.Str.{bytes_eq}
use Rattle.std.proofs.lemmas.Slice.Eq.{bytes_eq-Decides}
use Rattle.serde_json.specs.Data.{Data}
use Rattle.elm_base.specs.declared.event.PortType.{PortType}
use Rattle.elm_base.specs.declared.event.PortType.TheVariants as port_type
use Rattle.elm_base.specs.declared.event.Event.{Event}
use Rattle.elm_base.specs.declared.event.Event.TheVariants as event
use Rattle.port_literals.specs.Ports.{is_new}
use Rattle.port_texts.specs.PortTexts as text
use Rattle.session_file.specs.Sessions.{Inputs, InputIs, EventIs, Each, are_different}
use Rattle.session_file.specs.Written.{IsNamed, IsRecorded, HasType, MayBeWrittenAgain}
use Rattle.session_file.proofs.Letters.{and_left, and_right}
use Rattle.session_file.proofs.Typed.{literal_is_of}
use Rattle.session_file.proofs.FirstUses.{Every, all_of}

-- the type of the first input with this name
abbrev type_of : Inputs → List ℕ → PortType
type_of [] name = port_type.Unit
type_of (input ∷ inputs) name = if bytes_eq name input.0 then input.1 else type_of inputs name

some_is : {A : Type 0} (x y : A) → Some x ≡ Some y → x ≡ y
some_is x y e = cc

named_at : (ds : List Data) (inputs : Inputs) → Each InputIs ds inputs → (place : ℕ) (input : List ℕ × PortType) → slice_get inputs place ≡ Some input → IsNamed input
named_at [] [] h place input e = cc
named_at [] (i ∷ inputs) h place input e = absurd h
named_at (d ∷ ds) [] h place input e = absurd h
named_at (d ∷ ds) (i ∷ inputs) h zero input e =
    let same : i ≡ input = some_is i input e in
    subst IsNamed same (h.0.name, subst (text.Spells i.1) (sym h.0.port.printed) h.0.port)
named_at (d ∷ ds) (i ∷ inputs) h (suc place) input e = named_at ds inputs h.1 place input e

new_at : (name : List ℕ) (inputs : Inputs) → is_new name inputs ≡ true → (place : ℕ) (other : List ℕ) (port : PortType) → slice_get inputs place ≡ Some (other, port) → bytes_eq name other ≡ false
new_at name [] h place other port e = cc
new_at name (i ∷ inputs) h zero other port e =
    let same : i ≡ (other, port) = some_is i (other, port) e in
    is_false (bytes_eq name other) (subst (λ (input : List ℕ × PortType). not (bytes_eq name input.0) ≡ true) same (and_left (not (bytes_eq name i.0)) _ h)) where
      is_false : (b : Bool) → not b ≡ true → b ≡ false
      is_false true k = sym k
      is_false false k = refl
new_at name (i ∷ inputs) h (suc place) other port e = new_at name inputs (and_right (not (bytes_eq name i.0)) _ h) place other port e

turned : (a b : List ℕ) → bytes_eq a b ≡ false → bytes_eq b a ≡ false
turned a b h = go (bytes_eq b a) refl where
  go : (t : Bool) → bytes_eq b a ≡ t → t ≡ false
  go false e = refl
  go true e =
      let same = (bytes_eq-Decides b a).0 e in
      absurd (true≢false (sym ((bytes_eq-Decides a b).1 (sym same)) ∙ h))

type_at : (inputs : Inputs) → are_different inputs ≡ true → (place : ℕ) (name : List ℕ) (port : PortType) → slice_get inputs place ≡ Some (name, port) → type_of inputs name ≡ port
type_at [] h place name port e = cc
type_at (i ∷ inputs) h zero name port e =
    let same : i ≡ (name, port) = some_is i (name, port) e in
    ap (λ (input : List ℕ × PortType). if bytes_eq name input.0 then input.1 else type_of inputs name) same
    ∙ ap (λ b. if b then port else type_of inputs name) ((bytes_eq-Decides name name).1 refl)
type_at (i ∷ inputs) h (suc place) name port e =
    ap (λ b. if b then i.1 else type_of inputs name) (turned i.0 name (new_at i.0 inputs (and_left (is_new i.0 inputs) _ h) place name port e))
    ∙ type_at inputs (and_right (is_new i.0 inputs) _ h) place name port e

module _ (ds : List Data) (inputs : Inputs) (named : Each InputIs ds inputs) (different : are_different inputs ≡ true) where
  recorded : (es : List Data) (events : List Event) → Each (EventIs inputs) es events → Every IsRecorded events
  recorded [] [] h = tt
  recorded [] (e ∷ events) h = absurd h
  recorded (d ∷ es) [] h = absurd h
  recorded (d ∷ es) (event.Deliver number ∷ events) h = (h.0.1, recorded es events h.1)
  recorded (d ∷ es) (event.Input name port value ∷ events) h =
      ((named_at ds inputs named h.0.place (name, port) h.0.there, literal_is_of port value h.0.written h.0.literal), recorded es events h.1)

  typed : (es : List Data) (events : List Event) → Each (EventIs inputs) es events → Every (HasType (type_of inputs)) events
  typed [] [] h = tt
  typed [] (e ∷ events) h = absurd h
  typed (d ∷ es) [] h = absurd h
  typed (d ∷ es) (event.Deliver number ∷ events) h = (tt, typed es events h.1)
  typed (d ∷ es) (event.Input name port value ∷ events) h = (type_at inputs different h.0.place name port h.0.there, typed es events h.1)

as_many : {A B : Type 0} (Is : A → B → Type 0) (as_ : List A) (bs : List B) → Each Is as_ bs → length as_ ≡ length bs
as_many Is [] [] h = refl
as_many Is [] (b ∷ bs) h = absurd h
as_many Is (a ∷ as_) [] h = absurd h
as_many Is (a ∷ as_) (b ∷ bs) h = ap suc (as_many Is as_ bs h.1)

pub may_be_written : MayBeWrittenAgain
may_be_written bytes cursor events h =
    let s = h.spells in
    let ins = s.inputs_are in
    let evs = s.events_are in
    record {
      recorded = all_of IsRecorded events (recorded s.input_data s.inputs ins.each ins.different s.event_data events evs.each);
      types = type_of s.inputs;
      agree = all_of (HasType (type_of s.inputs)) events (typed s.input_data s.inputs ins.each ins.different s.event_data events evs.each);
      within = subst (λ n. cursor ≤ n) (as_many (EventIs s.inputs) s.event_data events evs.each) s.within;
    }
