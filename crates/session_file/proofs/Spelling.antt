-- What is written of a session within the limits spells it.
use Rattle.std.proofs.Common.{◌≡◌, ◌≤◌, ◌||◌, max, ℕ, suc, false, IsUtf8, List, [], ◌∷◌, map, All, Some, refl, sym, ◌∙◌, ap, ap₂, subst, arith}
use Rattle.std.proofs.lemmas.List.{length-map}
use Rattle.serde_json.specs.Data.{Data, depth, items_depth}
use Rattle.serde_json.specs.Read.{read, max_depth}
use Rattle.serde_json.specs.View.{items_of}
use Rattle.serde_json.specs.Written.{has_float, items_have_float, compact_text}
use Rattle.elm_base.specs.declared.event.PortType.{PortType}
use Rattle.elm_base.specs.declared.event.Event.{Event}
use Rattle.elm_base.specs.declared.event.Event.TheVariants as event
use Rattle.frame_text.specs.TypeText.{type_text}
use Rattle.port_values.specs.ValueText.{value_text}
use Rattle.port_literals.specs.Laws.{PrintedIsLiteral}
use Rattle.port_texts.specs.PortTexts.{GivenNests}
use Rattle.port_texts.specs.Given.{max_levels}
use Rattle.session_file.specs.Sessions as spec
use Rattle.session_file.specs.Sessions.{Inputs, InputIs, EventIs, Each, InputsAre, EventsAre, Spells, SessionOf}
use Rattle.session_file.specs.Written.{inputs_of, event_data, input_data, session_data, session_text, IsNamed, IsRecorded, HasType, Fits, IsWithin, SpellsIt}
use Rattle.session_file.proofs.FirstUses.{Every, every, all_of, OfInput, used_all, used_different, Agrees, there, IsKnown, all_known, order_of}
use Rattle.session_file.proofs.Size.{recorded_named, always_short}

-- ---- inputs

pub inputs_named : (events : List Event) → All IsRecorded events → All IsNamed (inputs_of events)
inputs_named events h = all_of IsNamed (inputs_of events) (used_all IsNamed [] events (recorded_named events (every IsRecorded events h)) tt)

agree_all : (types : List ℕ → PortType) (events : List Event) → Every (HasType types) events → Every (OfInput (Agrees types)) events
agree_all types [] h = tt
agree_all types (event.Deliver number ∷ events) h = (tt, agree_all types events h.1)
agree_all types (event.Input name port value ∷ events) h = (h.0, agree_all types events h.1)

each_input : (inputs : Inputs) → Every IsNamed inputs → Each InputIs (map input_data inputs) inputs
each_input [] h = tt
each_input (input ∷ inputs) h = (
  record {
    written = type_text input.1;
    whole = refl;
    name = h.0.0;
    port = h.0.1;
  },
  each_input inputs h.1,
)

-- ---- events

module _ (printed : PrintedIsLiteral) (nests : GivenNests) (types : List ℕ → PortType) (inputs : Inputs) (agree : Every (Agrees types) inputs) where
  one_event : (e : Event) → IsRecorded e → HasType types e → IsKnown inputs e → EventIs inputs (event_data inputs e) e
  one_event (event.Deliver number) h k l = (refl, h)
  one_event (event.Input name port value) h k l =
      let levels = nests port max_levels h.0.1.given in
      record {
        place = _;
        written = value_text value;
        whole = refl;
        there = there types name port k inputs agree l;
        literal = printed port (omega (arith, levels)) value h.1;
      }

  each_event : (events : List Event) → Every IsRecorded events → Every (HasType types) events → Every (IsKnown inputs) events
      → Each (EventIs inputs) (map (event_data inputs) events) events
  each_event [] h k l = tt
  each_event (e ∷ events) h k l = (one_event e h.0 k.0 l.0, each_event events h.1 k.1 l.1)

-- ---- the session

spelled : PrintedIsLiteral → GivenNests → (cursor : ℕ) (events : List Event) → Fits cursor events → IsWithin events → Spells (session_data cursor events) cursor events
spelled printed nests cursor events fits within =
    let inputs = inputs_of events in
    let recorded = every IsRecorded events fits.recorded in
    let typed = every (HasType fits.types) events fits.agree in
    let named = used_all IsNamed [] events (recorded_named events recorded) tt in
    let agree = used_all (Agrees fits.types) [] events (agree_all fits.types events typed) tt in
    record {
      event_data = map (event_data inputs) events;
      input_data = map input_data inputs;
      inputs = inputs;
      whole = refl;
      few = subst (λ n. n ≤ spec.max_inputs) (sym (length-map inputs input_data)) within.few;
      many = subst (λ n. n ≤ spec.max_events) (sym (length-map events (event_data inputs))) within.many;
      within = subst (λ n. cursor ≤ n) (sym (length-map events (event_data inputs))) fits.within;
      inputs_are = record {
        each = each_input inputs named;
        different = used_different [] events refl;
        used = order_of inputs [] events refl;
      };
      events_are = record {
        each = each_event printed nests fits.types inputs agree events recorded typed (all_known [] events);
        printed = within.printed;
      };
    }

-- ---- no number with a point, and no deep nesting

event_whole : (inputs : Inputs) (e : Event) → has_float (event_data inputs e) ≡ false
event_whole inputs (event.Deliver number) = refl
event_whole inputs (event.Input name port value) = refl

events_whole : (inputs : Inputs) (events : List Event) → items_have_float (items_of (map (event_data inputs) events)) ≡ false
events_whole inputs [] = refl
events_whole inputs (e ∷ events) = ap₂ (λ a b. a || b) (event_whole inputs e) (events_whole inputs events)

inputs_whole : (inputs : Inputs) → items_have_float (items_of (map input_data inputs)) ≡ false
inputs_whole [] = refl
inputs_whole (input ∷ inputs) = inputs_whole inputs

pub no_float : (cursor : ℕ) (events : List Event) → has_float (session_data cursor events) ≡ false
no_float cursor events = ap₂ (λ a b. a || (b || false)) (events_whole (inputs_of events) events) (inputs_whole (inputs_of events))

event_flat : (inputs : Inputs) (e : Event) → depth (event_data inputs e) ≡ 1
event_flat inputs (event.Deliver number) = refl
event_flat inputs (event.Input name port value) = refl

events_flat : (inputs : Inputs) (events : List Event) → items_depth (items_of (map (event_data inputs) events)) ≤ 1
events_flat inputs [] = omega arith
events_flat inputs (e ∷ events) =
    let first = event_flat inputs e in
    let others = events_flat inputs events in
    omega (arith, first, others)

inputs_flat : (inputs : Inputs) → items_depth (items_of (map input_data inputs)) ≤ 1
inputs_flat [] = omega arith
inputs_flat (input ∷ inputs) = let others = inputs_flat inputs in omega (arith, others)

few_levels : (a b : ℕ) → a ≤ 1 → b ≤ 1 → suc (max 0 (max (suc a) (max 0 (max (suc b) (max 0 0))))) ≤ max_depth
few_levels a b h k = omega (arith, h, k)

pub not_deep : (cursor : ℕ) (events : List Event) → depth (session_data cursor events) ≤ max_depth
not_deep cursor events = few_levels _ _ (events_flat (inputs_of events) events) (inputs_flat (inputs_of events))

pub spells_it : PrintedIsLiteral → GivenNests → (cursor : ℕ) (events : List Event) → Fits cursor events → IsUtf8 (session_text cursor events)
    → read (session_text cursor events) ≡ Some (session_data cursor events) → SpellsIt cursor events
spells_it printed nests cursor events fits utf8 json within = record {
  short = always_short cursor events fits within.few within.many within.printed;
  utf8 = utf8;
  found = session_data cursor events;
  json = json;
  spells = spelled printed nests cursor events fits within;
}

-- ---- what the kit prints and reads back

pub text_is : (d : Data) (cursor : ℕ) (events : List Event) (text : List ℕ) → d ≡ session_data cursor events → (has_float d ≡ false → text ≡ compact_text d)
    → text ≡ session_text cursor events
unfolding session_text
text_is d cursor events text is h = h (ap has_float is ∙ no_float cursor events) ∙ ap compact_text is

pub written_spells : PrintedIsLiteral → GivenNests → (d : Data) (cursor : ℕ) (events : List Event) (text : List ℕ) → d ≡ session_data cursor events → text ≡ session_text cursor events
    → Fits cursor events → IsUtf8 text → (depth d ≤ max_depth → read text ≡ Some d) → SpellsIt cursor events
written_spells printed nests d cursor events text is same fits utf8 back =
    let shallow = subst (λ x. depth x ≤ max_depth) (sym is) (not_deep cursor events) in
    spells_it printed nests cursor events fits (subst IsUtf8 same utf8) (ap read (sym same) ∙ back shallow ∙ ap Some is)
