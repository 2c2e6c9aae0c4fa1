-- What calls answer, carried over to another form.
use Rattle.std.proofs.Common.{◌≡◌, ℕ, List, Result, Ok, Err, sym, ◌∙◌, ap, subst}
use Rattle.serde_json.specs.Data.{Data}
use Rattle.elm_base.specs.declared.memory.Halt.{Halt}
use Rattle.elm_base.specs.declared.event.Event.{Event}
use Rattle.elm_base.specs.declared.event.Event.TheVariants as event
use Rattle.session_form.specs.Form as form
use Rattle.session_file.specs.declared.session.BadSession.{BadSession}
use Rattle.session_file.specs.Sessions as spec
use Rattle.session_file.specs.Sessions.{Inputs}
use Rattle.session_file.specs.Answers.{Answers}

carried : {A : Type 0} (P Q : A → Type 0) → ((a : A) → P a → Q a) → ((a : A) → Q a → P a) → (r : Result A (Halt BadSession)) → Answers P r → Answers Q r
carried P Q onward back (Ok found) h = onward found h
carried P Q onward back (Err cause) h = λ m a q. h m a (back a q)

-- ---- a delivery

delivery_number : (one other : ℕ) → form.delivery one ≡ form.delivery other → one ≡ other
delivery_number one other e = cc

delivery_to : (inputs : Inputs) (d : Data) (number : ℕ) → d ≡ form.delivery number → (e : Event) → spec.IsDelivery number e → spec.EventIs inputs d e
delivery_to inputs d number is (event.Deliver own) h = (is ∙ ap form.delivery h.0, h.1)
delivery_to inputs d number is (event.Input name port value) h = absurd h

delivery_from : (inputs : Inputs) (d : Data) (number : ℕ) → d ≡ form.delivery number → (e : Event) → spec.EventIs inputs d e → spec.IsDelivery number e
delivery_from inputs d number is (event.Deliver own) h = (delivery_number number own (sym is ∙ h.0), h.1)
delivery_from inputs d number is (event.Input name port value) h =
    let e : form.delivery number ≡ form.input h.place h.written = sym is ∙ h.whole in
    cc

pub is_delivery : (inputs : Inputs) (d : Data) (number : ℕ) → d ≡ form.delivery number → (r : Result Event (Halt BadSession))
    → Answers (spec.IsDelivery number) r → Answers (spec.EventIs inputs d) r
is_delivery inputs d number is r h =
    carried (spec.IsDelivery number) (spec.EventIs inputs d) (delivery_to inputs d number is) (delivery_from inputs d number is) r h

-- ---- an input event

pub input_place : (one other : ℕ) (a b : List ℕ) → form.input one a ≡ form.input other b → one ≡ other
input_place one other a b e = cc

pub input_text : (one other : ℕ) (a b : List ℕ) → form.input one a ≡ form.input other b → a ≡ b
input_text one other a b e = cc

input_to : (inputs : Inputs) (d : Data) (place : ℕ) (text : List ℕ) → d ≡ form.input place text → (e : Event) → spec.IsInputAt inputs place text e → spec.EventIs inputs d e
input_to inputs d place text is (event.Deliver own) h = absurd h
input_to inputs d place text is (event.Input name port value) h = record {
  place = place;
  written = text;
  whole = is;
  there = h.0;
  literal = h.1;
}

input_from : (inputs : Inputs) (d : Data) (place : ℕ) (text : List ℕ) → d ≡ form.input place text → (e : Event) → spec.EventIs inputs d e → spec.IsInputAt inputs place text e
input_from inputs d place text is (event.Deliver own) h =
    let e : form.input place text ≡ form.delivery own = sym is ∙ h.0 in
    cc
input_from inputs d place text is (event.Input name port value) h =
    let e : form.input h.place h.written ≡ form.input place text = sym h.whole ∙ is in
    subst (λ at. spec.IsInputAt inputs at text (event.Input name port value)) (input_place h.place place h.written text e)
    (subst (λ said. spec.IsInputAt inputs h.place said (event.Input name port value)) (input_text h.place place h.written text e) (h.there, h.literal))

pub is_input : (inputs : Inputs) (d : Data) (place : ℕ) (text : List ℕ) → d ≡ form.input place text → (r : Result Event (Halt BadSession))
    → Answers (spec.IsInputAt inputs place text) r → Answers (spec.EventIs inputs d) r
is_input inputs d place text is r h =
    carried (spec.IsInputAt inputs place text) (spec.EventIs inputs d) (input_to inputs d place text is) (input_from inputs d place text is) r h
