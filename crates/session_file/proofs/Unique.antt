-- One session at most: what is written tells it.
use Rattle.std.proofs.Common.{◌≡◌, ◌≤◌, ℕ, IsTrue, List, length, Some, sym, ◌∙◌, ap, ap₂, subst, arith, true≢false, leb-false}
use Rattle.std.specs.Prelude.{slice_get, nat_le, Bool, true, false}
use Rattle.std.proofs.lemmas.Option.{slice_get_within, get_or_from_slice_get}
use Rattle.serde_json.specs.Data.{Data}
use Rattle.elm_base.specs.declared.event.PortType.{PortType}
use Rattle.elm_base.specs.declared.event.Event.{Event}
use Rattle.elm_base.specs.declared.event.Event.TheVariants as event
use Rattle.port_values.specs.Literals.{IsLiteral}
use Rattle.port_literals.specs.Ports.{is_port}
use Rattle.port_literals.specs.Laws.{OneValue}
use Rattle.port_texts.specs.PortTexts.{OneType, GivenIsPort}
use Rattle.port_texts.specs.PortTexts as text
use Rattle.session_form.specs.Form as form
use Rattle.session_file.specs.Sessions as spec
use Rattle.session_file.specs.Sessions.{Inputs, ArePorts, InputIs, EventIs, Each}
use Rattle.session_file.proofs.Eaches.{one_list}
use Rattle.session_file.proofs.Telling.{input_place, input_text}

-- ---- inputs

named_name : (one other a b : List ℕ) → form.named one a ≡ form.named other b → one ≡ other
named_name one other a b e = cc

named_text : (one other a b : List ℕ) → form.named one a ≡ form.named other b → a ≡ b
named_text one other a b e = cc

one_input : OneType → (d : Data) (a b : List ℕ × PortType) → InputIs d a → InputIs d b → a ≡ b
one_input types d (name, port) (other, own) h k =
    let e = sym h.whole ∙ k.whole in
    ap₂ (λ n p. (n, p)) (named_name name other h.written k.written e)
    (types k.written port own (subst (text.Spells port) (named_text name other h.written k.written e) h.port) k.port)

pub one_inputs : OneType → (ds : List Data) (a b : Inputs) → Each InputIs ds a → Each InputIs ds b → a ≡ b
one_inputs types ds a b h k = one_list InputIs (one_input types) ds a b h k

-- ---- events

is_port_at : (inputs : Inputs) → ArePorts inputs → (at : ℕ) (name : List ℕ) (port : PortType) → slice_get inputs at ≡ Some (name, port) → IsTrue (is_port port)
is_port_at inputs ports at name port e =
    subst (λ (input : List ℕ × PortType). IsTrue (is_port input.1)) (get_or_from_slice_get inputs at (name, port) (name, port) e)
    (ports at (name, port) (slice_get_within inputs at (name, port) e))

delivered : (one other : ℕ) → form.delivery one ≡ form.delivery other → one ≡ other
delivered one other e = cc

some_is : {A : Type 0} (x y : A) → Some x ≡ Some y → x ≡ y
some_is x y e = cc

one_event : OneValue → (inputs : Inputs) → ArePorts inputs → (d : Data) (a b : Event) → EventIs inputs d a → EventIs inputs d b → a ≡ b
one_event values inputs ports d (event.Deliver a) (event.Deliver b) h k = ap event.Deliver (delivered a b (sym h.0 ∙ k.0))
one_event values inputs ports d (event.Deliver a) (event.Input name port value) h k =
    let e : form.delivery a ≡ form.input k.place k.written = sym h.0 ∙ k.whole in
    cc
one_event values inputs ports d (event.Input name port value) (event.Deliver b) h k =
    let e : form.delivery b ≡ form.input h.place h.written = sym k.0 ∙ h.whole in
    cc
one_event values inputs ports d (event.Input name port value) (event.Input other own given) h k =
    let e = sym h.whole ∙ k.whole in
    let place = input_place h.place k.place h.written k.written e in
    let said = input_text h.place k.place h.written k.written e in
    let there : slice_get inputs k.place ≡ Some (name, port) = subst (λ at. slice_get inputs at ≡ Some (name, port)) place h.there in
    let same = some_is {A = List ℕ × PortType} (name, port) (other, own) (sym there ∙ k.there) in
    let names : name ≡ other = ap (λ (p : List ℕ × PortType). p.0) same in
    let types : port ≡ own = ap (λ (p : List ℕ × PortType). p.1) same in
    let literal : IsLiteral own value k.written = subst (λ p. IsLiteral p value k.written) types (subst (IsLiteral port value) said h.literal) in
    let given_is = values own (is_port_at inputs ports k.place other own k.there) k.written value given literal k.literal in
    ap (λ n. event.Input n port value) names ∙ ap₂ (λ p v. event.Input other p v) types given_is

pub one_events : OneValue → (inputs : Inputs) → ArePorts inputs → (ds : List Data) (a b : List Event) → Each (EventIs inputs) ds a → Each (EventIs inputs) ds b → a ≡ b
one_events values inputs ports ds a b h k = one_list (EventIs inputs) (one_event values inputs ports) ds a b h k

-- ---- refused: no other list is what the data are

pub false_is : (b : Bool) → IsTrue b → b ≡ false → ⊥
false_is true h e = true≢false e
false_is false h e = true≢false (sym h)

not_above : (n most : ℕ) → n ≤ most → nat_le n most ≡ false → ⊥
not_above n most h e = absurd (omega (arith, h, leb-false n most e))

pub too_long : OneValue → (inputs : Inputs) → ArePorts inputs → (ds : List Data) (found : List Event) → Each (EventIs inputs) ds found → nat_le (spec.printed_size found) spec.max_printed ≡ false
    → (a : List Event) → spec.EventsAre inputs ds a → ⊥
too_long values inputs ports ds found each long a are =
    let same = one_events values inputs ports ds a found are.each each in
    let short : spec.printed_size found ≤ spec.max_printed = subst (λ events. spec.printed_size events ≤ spec.max_printed) same are.printed in
    not_above (spec.printed_size found) spec.max_printed short long

pub not_different : OneType → (ds events : List Data) (found : Inputs) → Each InputIs ds found → spec.are_different found ≡ false → (a : Inputs) → spec.InputsAre ds events a → ⊥
not_different types ds events found each never a are =
    false_is (spec.are_different found) (subst (λ inputs. IsTrue (spec.are_different inputs)) (one_inputs types ds a found are.each each) are.different) never

pub not_in_order : OneType → (ds events : List Data) (found : Inputs) → Each InputIs ds found → spec.in_order (length found) 0 events ≡ false → (a : Inputs) → spec.InputsAre ds events a → ⊥
not_in_order types ds events found each never a are =
    false_is (spec.in_order (length found) 0 events) (subst (λ (inputs : Inputs). IsTrue (spec.in_order (length inputs) 0 events)) (one_inputs types ds a found are.each each) are.used) never
