-- What a session has to be, from what was read of it.
use Rattle.std.proofs.Common.{◌≡◌, ◌≤◌, ℕ, zero, suc, IsUtf8, List, [], ◌∷◌, map, length, Some, Ok, Err, Result, sym, ◌∙◌, subst, arith}
use Rattle.std.proofs.lemmas.List.{length-map}
use Rattle.serde_json.specs.Data.{Data}
use Rattle.serde_json.specs.Read.{read}
use Rattle.elm_base.specs.declared.memory.Halt.{Halt}
use Rattle.elm_base.specs.declared.event.Event.{Event}
use Rattle.port_literals.specs.Laws.{OneValue}
use Rattle.port_texts.specs.PortTexts.{OneType, GivenIsPort}
use Rattle.port_texts.specs.Given.{max_levels}
use Rattle.session_form.specs.Form as form
use Rattle.session_form.specs.Laws.{OneContent}
use Rattle.session_file.specs.declared.session.BadSession.{BadSession}
use Rattle.session_file.specs.Sessions as spec
use Rattle.session_file.specs.Sessions.{Inputs, ArePorts, InputIs, EventIs, InputsAre, EventsAre, Each, Spells, SessionOf}
use Rattle.session_file.specs.Answers.{AnswersAs}
use Rattle.session_file.proofs.Unique.{one_inputs, one_events}

-- ---- the sheet that was found

module _ (content : OneContent) (d : Data) (cursor : ℕ) (events inputs : List Data) (whole : d ≡ form.sheet cursor events inputs)
    (own : ℕ) (given : List Event) (h : Spells d own given) where
  same : (own ≡ cursor) × (h.event_data ≡ events) × (h.input_data ≡ inputs)
  same = content own cursor h.event_data events h.input_data inputs (sym h.whole ∙ whole)

  pub inputs_of : InputsAre inputs events h.inputs
  inputs_of = subst (λ es. InputsAre inputs es h.inputs) same.1 (subst (λ ds. InputsAre ds h.event_data h.inputs) same.2 h.inputs_are)

  pub events_of : OneType → (found : Inputs) → Each InputIs inputs found → EventsAre found events given
  events_of types found each =
      let is = one_inputs types inputs h.inputs found inputs_of.each each in
      subst (λ es. EventsAre found es given) same.1 (subst (λ ins. EventsAre ins h.event_data given) is h.events_are)

  pub bounds_of : (length inputs ≤ spec.max_inputs) × (length events ≤ spec.max_events) × (cursor ≤ length events)
  bounds_of = (
    subst (λ (ds : List Data). length ds ≤ spec.max_inputs) same.2 h.few,
    subst (λ (es : List Data). length es ≤ spec.max_events) same.1 h.many,
    subst (λ (es : List Data). cursor ≤ length es) same.1 (subst (λ n. n ≤ length h.event_data) same.0 h.within),
  )

-- its lengths are those of the values
pub bounds_seen : {V : Type 0} (view : V → Data) (events inputs : List V) (cursor : ℕ)
    → (length (map view inputs) ≤ spec.max_inputs) × (length (map view events) ≤ spec.max_events) × (cursor ≤ length (map view events))
    → (length inputs ≤ spec.max_inputs) × (length events ≤ spec.max_events) × (cursor ≤ length events)
bounds_seen view events inputs cursor h = (
  subst (λ n. n ≤ spec.max_inputs) (length-map inputs view) h.0,
  subst (λ n. n ≤ spec.max_events) (length-map events view) h.1,
  subst (λ n. cursor ≤ n) (length-map events view) h.2,
)

-- ---- the bytes

some_is : {A : Type 0} (x y : A) → Some x ≡ Some y → x ≡ y
some_is x y e = cc

pub spelled : (bytes : List ℕ) (d : Data) → read bytes ≡ Some d → (cursor : ℕ) (events : List Event) → SessionOf bytes cursor events → Spells d cursor events
spelled bytes d is cursor events h = subst (λ found. Spells found cursor events) (some_is h.found d (sym h.json ∙ is)) h.spells

pub session_of : {S : Type 0} (seen : S → ℕ × List Event) (bytes : List ℕ) (d : Data) → length bytes ≤ spec.max_bytes → IsUtf8 bytes → read bytes ≡ Some d
    → (r : Result S (Halt BadSession)) → AnswersAs seen (λ said. Spells d said.0 said.1) r → AnswersAs seen (λ said. SessionOf bytes said.0 said.1) r
session_of seen bytes d short utf8 is (Ok found) h = record {
  short = short;
  utf8 = utf8;
  found = d;
  json = is;
  spells = h;
}
session_of seen bytes d short utf8 is (Err cause) h = λ m a k. h m a (spelled bytes d is a.0 a.1 k)

-- ---- one session

ports_are : GivenIsPort → (ds : List Data) (inputs : Inputs) → Each InputIs ds inputs → ArePorts inputs
ports_are g [] [] e k d h = absurd (omega (arith, h))
ports_are g [] (i ∷ more) e k d h = absurd e
ports_are g (x ∷ ds) [] e k d h = absurd e
ports_are g (x ∷ ds) (i ∷ more) e zero d h = g i.1 max_levels e.0.port.given
ports_are g (x ∷ ds) (i ∷ more) e (suc k) d h = ports_are g ds more e.1 k d (omega (arith, h))

pub one_session : OneContent → OneType → GivenIsPort → OneValue → spec.OneSession
one_session content types given values bytes cursor other events others h k =
    let own = spelled bytes k.found k.json cursor events h in
    let found = k.spells.inputs in
    let are = k.spells.inputs_are in
    let cursors = same content k.found other k.spells.event_data k.spells.input_data k.spells.whole cursor events own in
    let mine = events_of content k.found other k.spells.event_data k.spells.input_data k.spells.whole cursor events own types found are.each in
    (cursors.0, one_events values found (ports_are given k.spells.input_data found are.each) k.spells.event_data events others mine.each k.spells.events_are.each)
