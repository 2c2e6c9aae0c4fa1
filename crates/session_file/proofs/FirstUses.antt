-- The inputs that events use, in the order of their first use.
use Rattle.std.proofs.Common.{◌≡◌, ◌<◌, ◌≤◌, ◌==◌, ◌&&◌, max, ℕ, zero, suc, Bool, true, false, true≢false, not, nat_le, if◌then◌else◌, List, [], ◌∷◌, ◌++◌, map, length, All, Some, refl, sym, ◌∙◌, ap, ap₂, subst, arith}
use Rattle.std.specs.Prelude.{slice_get}
use Rattle.std.specs.Str.{bytes_eq}
use Rattle.std.proofs.lemmas.List.{append_assoc, append-nil}
use Rattle.std.proofs.lemmas.Slice.Eq.{bytes_eq-Decides}
use Rattle.elm_base.specs.declared.event.PortType.{PortType}
use Rattle.elm_base.specs.declared.event.Event.{Event}
use Rattle.elm_base.specs.declared.event.Event.TheVariants as event
use Rattle.port_literals.specs.Ports.{is_new}
use Rattle.session_file.specs.Sessions.{Inputs, in_order, are_different}
use Rattle.session_file.specs.Written.{with_input, with_event, used_by, place_of, event_data}
use Rattle.session_file.proofs.Letters.{and_left, and_right}

abbrev Input : Type 0
Input = List ℕ × PortType

-- ---- of each item

abbrev pub Every : {A : Type 0} → (A → Type 0) → List A → Type 0
Every P [] = Unit {0}
Every P (x ∷ xs) = P x × Every P xs

pub every : {A : Type 0} (P : A → Type 0) (xs : List A) → All P xs → Every P xs
every P [] h = tt
every P (x ∷ xs) h = (h zero x (omega arith), every P xs (λ k d l. h (suc k) d (omega (arith, l))))

pub all_of : {A : Type 0} (P : A → Type 0) (xs : List A) → Every P xs → All P xs
all_of P [] h k d l = absurd (omega (arith, l))
all_of P (x ∷ xs) h zero d l = h.0
all_of P (x ∷ xs) h (suc k) d l = all_of P xs h.1 k d (omega (arith, l))

every_more : {A : Type 0} (P : A → Type 0) (xs : List A) (x : A) → Every P xs → P x → Every P (xs ++ x ∷ [])
every_more P [] x h k = (k, tt)
every_more P (y ∷ ys) x h k = (h.0, every_more P ys x h.1 k)

-- ---- what holds of the inputs of events

abbrev pub OfInput : (Input → Type 0) → Event → Type 0
OfInput P (event.Deliver number) = Unit {0}
OfInput P (event.Input name port value) = P (name, port)

module _ (P : Input → Type 0) where
  with_all : (name : List ℕ) (port : PortType) (used : Inputs) → P (name, port) → Every P used → Every P (with_input name port used)
  with_all name port used h k = go (is_new name used) where
    go : (b : Bool) → Every P (if b then used ++ (name, port) ∷ [] else used)
    go true = every_more P used (name, port) k h
    go false = k

  event_all : (e : Event) (used : Inputs) → OfInput P e → Every P used → Every P (with_event e used)
  event_all (event.Deliver number) used h k = k
  event_all (event.Input name port value) used h k = with_all name port used h k

  pub used_all : (used : Inputs) (events : List Event) → Every (OfInput P) events → Every P used → Every P (used_by used events)
  used_all used [] h k = k
  used_all used (e ∷ events) h k = used_all (with_event e used) events h.1 (event_all e used h.0 k)

-- ---- names differ

equal_names : (a b : List ℕ) → bytes_eq a b ≡ true → a ≡ b
equal_names a b h = (bytes_eq-Decides a b).0 h

own_name : (a : List ℕ) → bytes_eq a a ≡ true
own_name a = (bytes_eq-Decides a a).1 refl

pub not_turned : (a b : List ℕ) → not (bytes_eq a b) ≡ true → not (bytes_eq b a) ≡ true
not_turned a b h = go (bytes_eq b a) refl where
  go : (t : Bool) → bytes_eq b a ≡ t → not t ≡ true
  go false e = refl
  go true e =
      let same : bytes_eq a b ≡ true = subst (λ n. bytes_eq n b ≡ true) (equal_names b a e) (own_name b) in
      absurd (true≢false (sym h ∙ ap not same))

both : (a b : Bool) → a ≡ true → b ≡ true → (a && b) ≡ true
both false b h k = h
both true b h k = k

new_more : (name : List ℕ) (used : Inputs) (input : Input) → is_new name used ≡ true → not (bytes_eq name input.0) ≡ true → is_new name (used ++ input ∷ []) ≡ true
new_more name [] input h k = both (not (bytes_eq name input.0)) true k refl
new_more name (u ∷ us) input h k =
    both (not (bytes_eq name u.0)) _ (and_left (not (bytes_eq name u.0)) _ h) (new_more name us input (and_right (not (bytes_eq name u.0)) _ h) k)

different_more : (used : Inputs) (input : Input) → is_new input.0 used ≡ true → are_different used ≡ true → are_different (used ++ input ∷ []) ≡ true
different_more [] input h k = refl
different_more (u ∷ us) input h k =
    both (is_new u.0 (us ++ input ∷ [])) _
    (new_more u.0 us input (and_left (is_new u.0 us) _ k) (not_turned input.0 u.0 (and_left (not (bytes_eq input.0 u.0)) _ h)))
    (different_more us input (and_right (not (bytes_eq input.0 u.0)) _ h) (and_right (is_new u.0 us) _ k))

event_different : (e : Event) (used : Inputs) → are_different used ≡ true → are_different (with_event e used) ≡ true
event_different (event.Deliver number) used h = h
event_different (event.Input name port value) used h = go (is_new name used) refl where
  go : (b : Bool) → is_new name used ≡ b → are_different (if b then used ++ (name, port) ∷ [] else used) ≡ true
  go true e = different_more used (name, port) e h
  go false e = h

pub used_different : (used : Inputs) (events : List Event) → are_different used ≡ true → are_different (used_by used events) ≡ true
used_different used [] h = h
used_different used (e ∷ events) h = used_different (with_event e used) events (event_different e used h)

-- ---- what was used stays in front

event_front : (e : Event) (used : Inputs) → (rest : Inputs) × (with_event e used ≡ used ++ rest)
event_front (event.Deliver number) used = ([], sym (append-nil used))
event_front (event.Input name port value) used = go (is_new name used) where
  go : (b : Bool) → (rest : Inputs) × ((if b then used ++ (name, port) ∷ [] else used) ≡ used ++ rest)
  go true = ((name, port) ∷ [], refl)
  go false = ([], sym (append-nil used))

front : (used : Inputs) (events : List Event) → (rest : Inputs) × (used_by used events ≡ used ++ rest)
front used [] = ([], sym (append-nil used))
front used (e ∷ events) =
    let first = event_front e used in
    let others = front (with_event e used) events in
    (first.0 ++ others.0, others.1 ∙ ap (λ us. us ++ others.0) first.1 ∙ append_assoc used first.0 others.0)

-- ---- places

known_more : (name : List ℕ) (used rest : Inputs) → is_new name used ≡ false → is_new name (used ++ rest) ≡ false
known_more name [] rest h = absurd (true≢false h)
known_more name (u ∷ us) rest h = go (known_more name us rest) (not (bytes_eq name u.0)) h where
  go : (is_new name us ≡ false → is_new name (us ++ rest) ≡ false) → (b : Bool) → (b && is_new name us) ≡ false → (b && is_new name (us ++ rest)) ≡ false
  go more false k = refl
  go more true k = more k

place_within : (name : List ℕ) (used rest : Inputs) → is_new name used ≡ false → place_of name (used ++ rest) < length used
place_within name [] rest h = absurd (true≢false h)
place_within name (u ∷ us) rest h = go (place_within name us rest) (bytes_eq name u.0) h where
  go : (is_new name us ≡ false → place_of name (us ++ rest) < length us) → (b : Bool)
      → (not b && is_new name us) ≡ false → (if b then 0 else suc (place_of name (us ++ rest))) < suc (length us)
  go more true k = omega arith
  go more false k = let below = more k in omega (arith, below)

place_next : (name : List ℕ) (port : PortType) (used rest : Inputs) → is_new name used ≡ true → place_of name (used ++ (name, port) ∷ rest) ≡ length used
place_next name port [] rest h = ap (λ b. if b then 0 else suc (place_of name rest)) (own_name name)
place_next name port (u ∷ us) rest h =
    ap (λ b. if b then 0 else suc (place_of name (us ++ (name, port) ∷ rest))) (is_false (bytes_eq name u.0) (and_left (not (bytes_eq name u.0)) _ h))
    ∙ ap suc (place_next name port us rest (and_right (not (bytes_eq name u.0)) _ h)) where
      is_false : (b : Bool) → not b ≡ true → b ≡ false
      is_false true k = sym k
      is_false false k = refl

module _ (types : List ℕ → PortType) where
  abbrev pub Agrees : Input → Type 0
  Agrees input = types input.0 ≡ input.1

  pub there : (name : List ℕ) (port : PortType) → types name ≡ port → (all : Inputs) → Every Agrees all → is_new name all ≡ false → slice_get all (place_of name all) ≡ Some (name, port)
  there name port own [] agree h = absurd (true≢false h)
  there name port own (u ∷ us) agree h = go (there name port own us agree.1) (bytes_eq name u.0) refl h where
    go : (is_new name us ≡ false → slice_get us (place_of name us) ≡ Some (name, port)) → (b : Bool) → bytes_eq name u.0 ≡ b
        → (not b && is_new name us) ≡ false → slice_get (u ∷ us) (if b then 0 else suc (place_of name us)) ≡ Some (name, port)
    go more true e k =
        let same = equal_names name u.0 e in
        ap Some (ap₂ (λ n p. (n, p)) (sym same) (sym agree.0 ∙ ap types (sym same) ∙ own))
    go more false e k = more k

-- ---- each input that is used has a place

abbrev pub IsKnown : Inputs → Event → Type 0
IsKnown all (event.Deliver number) = Unit {0}
IsKnown all (event.Input name port value) = is_new name all ≡ false

either : (a : Bool) {b : Bool} → b ≡ false → (a && b) ≡ false
either false h = refl
either true h = h

not_new_there : (name : List ℕ) (port : PortType) (used : Inputs) → is_new name (used ++ (name, port) ∷ []) ≡ false
not_new_there name port [] = ap (λ b. not b && true) (own_name name)
not_new_there name port (u ∷ us) = either (not (bytes_eq name u.0)) (not_new_there name port us)

known_with : (name : List ℕ) (port : PortType) (used : Inputs) → is_new name (with_input name port used) ≡ false
known_with name port used = go (is_new name used) refl where
  go : (b : Bool) → is_new name used ≡ b → is_new name (if b then used ++ (name, port) ∷ [] else used) ≡ false
  go true e = not_new_there name port used
  go false e = e

known_event : (e : Event) (used : Inputs) (events : List Event) → IsKnown (used_by (with_event e used) events) e
known_event (event.Deliver number) used events = tt
known_event (event.Input name port value) used events =
    let whole = front (with_input name port used) events in
    subst (λ all. is_new name all ≡ false) (sym whole.1) (known_more name (with_input name port used) whole.0 (known_with name port used))

pub all_known : (used : Inputs) (events : List Event) → Every (IsKnown (used_by used events)) events
all_known used [] = tt
all_known used (e ∷ events) = (known_event e used events, all_known (with_event e used) events)

-- ---- the order

abbrev Next : ℕ → ℕ → ℕ → List Event → Inputs → Bool
Next count used place events all = if nat_le place used then in_order count (max used (suc place)) (map (event_data all) events) else false

by_place : (count used place next : ℕ) (events : List Event) (all : Inputs) → place ≤ used → max used (suc place) ≡ next
    → in_order count next (map (event_data all) events) ≡ true → Next count used place events all ≡ true
by_place count used place next events all h is rest =
    let test : nat_le place used ≡ true = grind (arith, h) in
    ap (λ b. if b then in_order count (max used (suc place)) (map (event_data all) events) else false) test
    ∙ ap (λ n. in_order count n (map (event_data all) events)) is ∙ rest

module _ (name : List ℕ) (port : PortType) (used : Inputs) (events : List Event) (all : Inputs) where
  was_new : is_new name used ≡ true → all ≡ used_by (used ++ (name, port) ∷ []) events
      → in_order (length all) (length (used ++ (name, port) ∷ [])) (map (event_data all) events) ≡ true
      → Next (length all) (length used) (place_of name all) events all ≡ true
  was_new h whole rest =
      let behind = front (used ++ (name, port) ∷ []) events in
      let place : place_of name all ≡ length used =
      ap (place_of name) (whole ∙ behind.1 ∙ append_assoc used ((name, port) ∷ []) behind.0) ∙ place_next name port used behind.0 h in
      let more : length (used ++ (name, port) ∷ []) ≡ suc (length used) = more_by_one used in
      by_place (length all) (length used) (place_of name all) (length (used ++ (name, port) ∷ [])) events all (omega (arith, place)) (omega (arith, place, more)) rest where
        more_by_one : (xs : Inputs) → length (xs ++ (name, port) ∷ []) ≡ suc (length xs)
        more_by_one [] = refl
        more_by_one (x ∷ xs) = ap suc (more_by_one xs)

  was_known : is_new name used ≡ false → all ≡ used_by used events → in_order (length all) (length used) (map (event_data all) events) ≡ true
      → Next (length all) (length used) (place_of name all) events all ≡ true
  was_known h whole rest =
      let behind = front used events in
      let below : place_of name all < length used = subst (λ us. place_of name us < length used) (sym (whole ∙ behind.1)) (place_within name used behind.0 h) in
      by_place (length all) (length used) (place_of name all) (length used) events all (omega (arith, below)) (omega (arith, below)) rest

  by_newness : (b : Bool) → is_new name used ≡ b → all ≡ used_by (if b then used ++ (name, port) ∷ [] else used) events
      → in_order (length all) (length (if b then used ++ (name, port) ∷ [] else used)) (map (event_data all) events) ≡ true
      → Next (length all) (length used) (place_of name all) events all ≡ true
  by_newness true h whole rest = was_new h whole rest
  by_newness false h whole rest = was_known h whole rest

same_count : (n m : ℕ) → n ≡ m → (n == m) ≡ true
same_count n m h = grind (arith, h)

pub order_of : (all used : Inputs) (events : List Event) → all ≡ used_by used events → in_order (length all) (length used) (map (event_data all) events) ≡ true
order_of all used [] whole = same_count (length used) (length all) (sym (ap length whole))
order_of all used (event.Deliver number ∷ events) whole = order_of all used events whole
order_of all used (event.Input name port value ∷ events) whole =
    by_newness name port used events all (is_new name used) refl whole (order_of all (with_input name port used) events whole)
