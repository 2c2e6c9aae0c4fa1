-- Events use at most as many inputs as there are names.
use Rattle.std.proofs.Common.{◌≡◌, ◌≤◌, ◌||◌, ℕ, suc, Bool, true, false, true≢false, not, if◌then◌else◌, List, [], ◌∷◌, length, refl, sym, ◌∙◌, ap, arith}
use Rattle.std.specs.Str.{bytes_eq}
use Rattle.std.proofs.lemmas.Slice.Eq.{bytes_eq-Decides}
use Rattle.elm_base.specs.declared.event.PortType.{PortType}
use Rattle.elm_base.specs.declared.event.Event.{Event}
use Rattle.elm_base.specs.declared.event.Event.TheVariants as event
use Rattle.port_literals.specs.Ports.{is_new}
use Rattle.session_file.specs.Sessions.{Inputs, are_different}
use Rattle.session_file.specs.Written.{inputs_of, is_among, IsAmong, FewInputs}
use Rattle.session_file.proofs.FirstUses.{Every, every, OfInput, used_all, used_different, not_turned}
use Rattle.session_file.proofs.Letters.{and_left, and_right}

abbrev Names : Type 0
Names = List (List ℕ)

abbrev Among : Names → List ℕ × PortType → Type 0
Among names input = is_among names input.0 ≡ true

-- the names without the first that is this one
abbrev without : List ℕ → Names → Names
without name [] = []
without name (own ∷ names) = if bytes_eq name own then names else own ∷ without name names

shorter : (name : List ℕ) (names : Names) → is_among names name ≡ true → suc (length (without name names)) ≡ length names
shorter name [] h = absurd (true≢false (sym h))
shorter name (own ∷ names) h = go (shorter name names) (bytes_eq name own) h where
  go : (is_among names name ≡ true → suc (length (without name names)) ≡ length names) → (b : Bool) → (b || is_among names name) ≡ true
      → suc (length (if b then names else own ∷ without name names)) ≡ suc (length names)
  go rest true k = refl
  go rest false k = ap suc (rest k)

is_not : (b : Bool) → not b ≡ true → b ≡ false
is_not true h = sym h
is_not false h = refl

still : (name other : List ℕ) → not (bytes_eq other name) ≡ true → (names : Names) → is_among names other ≡ true → is_among (without name names) other ≡ true
still name other apart [] h = h
still name other apart (own ∷ names) h = go (still name other apart names) (bytes_eq name own) refl where
  passed : name ≡ own → is_among names other ≡ true
  passed same =
      let unequal : bytes_eq other own ≡ false = ap (bytes_eq other) (sym same) ∙ is_not (bytes_eq other name) apart in
      sym (ap (λ b. b || is_among names other) unequal) ∙ h

  here : (b : Bool) → (b || is_among names other) ≡ true → (is_among names other ≡ true → is_among (without name names) other ≡ true) → (b || is_among (without name names) other) ≡ true
  here true k rest = refl
  here false k rest = rest k

  go : (is_among names other ≡ true → is_among (without name names) other ≡ true) → (b : Bool) → bytes_eq name own ≡ b
      → is_among (if b then names else own ∷ without name names) other ≡ true
  go rest true e = passed ((bytes_eq-Decides name own).0 e)
  go rest false e = here (bytes_eq other own) h rest

all_still : (name : List ℕ) (names : Names) (inputs : Inputs) → is_new name inputs ≡ true → Every (Among names) inputs → Every (Among (without name names)) inputs
all_still name names [] h k = tt
all_still name names (input ∷ inputs) h k = (
  still name input.0 (not_turned name input.0 (and_left (not (bytes_eq name input.0)) _ h)) names k.0,
  all_still name names inputs (and_right (not (bytes_eq name input.0)) _ h) k.1,
)

few : (names : Names) (inputs : Inputs) → are_different inputs ≡ true → Every (Among names) inputs → length inputs ≤ length names
few names [] h k = omega arith
few names (input ∷ inputs) h k =
    let others = few (without input.0 names) inputs (and_right (is_new input.0 inputs) _ h) (all_still input.0 names inputs (and_left (is_new input.0 inputs) _ h) k.1) in
    let size = shorter input.0 names k.0 in
    omega (arith, others, size)

of_events : (names : Names) (events : List Event) → Every (IsAmong names) events → Every (OfInput (Among names)) events
of_events names [] h = tt
of_events names (event.Deliver number ∷ events) h = (tt, of_events names events h.1)
of_events names (event.Input name port value ∷ events) h = (h.0, of_events names events h.1)

pub few_inputs : FewInputs
few_inputs names events h =
    few names (inputs_of events) (used_different [] events refl)
    (used_all (Among names) [] events (of_events names events (every (IsAmong names) events h)) tt)
