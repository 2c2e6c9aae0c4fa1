-- How long what is written is at most.
use Rattle.std.proofs.Common.{◌≡◌, ◌≤◌, ◌+◌, ◌*◌, ◌/◌, ◌%◌, ◌&&◌, ℕ, suc, Bool, true, false, nat_le, nat_lt, if◌then◌else◌, List, [], ◌∷◌, ◌++◌, map, length, codes, decimal, refl, arith}
use Rattle.std.specs.List.{flat_map}
use Rattle.std.specs.Char.{digit_char}
use Rattle.std.specs.Str.{bytes_eq}
use Rattle.std.proofs.lemmas.List.{length-append}
use Rattle.std.proofs.lemmas.Fmt.{length-decimal-le}
use Rattle.json.specs.Print.{escape_letter, escape_byte, quoted}
use Rattle.serde_json.specs.Data.{Data, unsigned, array, Items, item, Members, member, no_members}
use Rattle.serde_json.specs.Data as json
use Rattle.serde_json.specs.View.{items_of}
use Rattle.serde_json.specs.Written.{comma_if, compact_text, items_text, members_text}
use Rattle.elm_base.specs.declared.event.PortType.{PortType}
use Rattle.elm_base.specs.declared.event.Event.{Event}
use Rattle.elm_base.specs.declared.event.Event.TheVariants as event
use Rattle.frame_text.specs.TypeText.{type_text}
use Rattle.port_values.specs.ValueText.{value_text}
use Rattle.session_file.specs.Sessions as spec
use Rattle.session_file.specs.Sessions.{Inputs, printed_of, printed_size}
use Rattle.session_file.specs.Written.{inputs_of, place_of, event_data, input_data, session_text, IsNamed, IsRecorded, Fits}
use Rattle.session_file.proofs.FirstUses.{Every, every, OfInput, used_all}
use Rattle.session_file.proofs.Letters.{and_left, and_right}

-- ---- texts in quotes

abbrev few_bytes : List ℕ → Bool
few_bytes text = nat_le (length text) 6

by_test : (a b : Bool) (p q r : List ℕ) → few_bytes p ≡ true → few_bytes q ≡ true → few_bytes r ≡ true → few_bytes (if a then p else (if b then q else r)) ≡ true
by_test true b p q r h k l = h
by_test false true p q r h k l = k
by_test false false p q r h k l = l

few_escaped : (byte : ℕ) → few_bytes (escape_byte byte) ≡ true
unfolding escape_byte
few_escaped byte =
    by_test (nat_lt 0 (escape_letter byte)) (nat_lt byte 32)
    (92 ∷ escape_letter byte ∷ []) (92 ∷ 117 ∷ 48 ∷ 48 ∷ digit_char (byte / 16) ∷ digit_char (byte % 16) ∷ []) (byte ∷ []) refl refl refl

escape_len : (byte : ℕ) → length (escape_byte byte) ≤ 6
escape_len byte = let few = few_escaped byte in grind (arith, few)

escaped_len : (text : List ℕ) → length (flat_map escape_byte text) ≤ 6 * length text
escaped_len [] = omega arith
escaped_len (byte ∷ text) =
    let first = escape_len byte in
    let rest = escaped_len text in
    let both = length-append (escape_byte byte) (flat_map escape_byte text) in
    omega (arith, first, rest, both)

quoted_len : (text : List ℕ) → length (quoted text) ≤ 6 * length text + 2
quoted_len text =
    let inside = escaped_len text in
    let both = length-append (flat_map escape_byte text) (34 ∷ []) in
    omega (arith, inside, both)

-- ---- events

place_len : (name : List ℕ) (inputs : Inputs) → place_of name inputs ≤ length inputs
place_len name [] = omega arith
place_len name (input ∷ inputs) = go (place_len name inputs) (bytes_eq name input.0) where
  go : place_of name inputs ≤ length inputs → (b : Bool) → (if b then 0 else suc (place_of name inputs)) ≤ suc (length inputs)
  go rest true = omega arith
  go rest false = omega (arith, rest)

delivery_len : (number : ℕ) → number ≤ spec.max_number → length (decimal number) ≤ 9
delivery_len number h = length-decimal-le 9 number (omega arith) (omega (arith, h)) (omega (arith, h))

number_len : (number : ℕ) → number ≤ 1000000 → length (decimal number) ≤ 7
number_len number h = length-decimal-le 7 number (omega arith) (omega (arith, h)) (omega (arith, h))

event_len : (inputs : Inputs) → length inputs ≤ spec.max_inputs → (e : Event) → IsRecorded e → length (compact_text (event_data inputs e)) ≤ 6 * printed_of e + 12
event_len inputs few (event.Deliver number) h =
    let digits = delivery_len number h in
    let all = length-append (decimal number) (93 ∷ []) in
    omega (arith, digits, all)
event_len inputs few (event.Input name port value) h =
    let place = place_len name inputs in
    let digits = number_len (place_of name inputs) (omega (arith, place, few)) in
    let text = quoted_len (value_text value) in
    let behind = length-append (quoted (value_text value)) (93 ∷ []) in
    let all = length-append (decimal (place_of name inputs)) (44 ∷ (quoted (value_text value) ++ 93 ∷ [])) in
    omega (arith, digits, text, behind, all)

-- ---- lists and members

comma_len : (later : Bool) (rest : List ℕ) → length (comma_if later ++ rest) ≤ 1 + length rest
comma_len true rest = omega arith
comma_len false rest = omega arith

item_len : (later : Bool) (d : Data) (ds : Items) (n m : ℕ) → length (compact_text d) ≤ n → length (items_text true ds) ≤ m → length (items_text later (item d ds)) ≤ 1 + n + m
item_len later d ds n m h k =
    let comma = comma_len later (compact_text d ++ items_text true ds) in
    let both = length-append (compact_text d) (items_text true ds) in
    omega (arith, comma, both, h, k)

member_len : (later : Bool) (key : List ℕ) (d : Data) (ms : Members) (n m : ℕ) → length (compact_text d) ≤ n → length (members_text true ms) ≤ m
    → length (members_text later (member key d ms)) ≤ 6 * length key + 4 + n + m
member_len later key d ms n m h k =
    let comma = comma_len later (quoted key ++ 58 ∷ (compact_text d ++ members_text true ms)) in
    let name = quoted_len key in
    let both = length-append (quoted key) (58 ∷ (compact_text d ++ members_text true ms)) in
    let rest = length-append (compact_text d) (members_text true ms) in
    omega (arith, comma, name, both, rest, h, k)

events_len : (inputs : Inputs) → length inputs ≤ spec.max_inputs → (later : Bool) (events : List Event) → Every IsRecorded events
    → length (items_text later (items_of (map (event_data inputs) events))) ≤ 6 * printed_size events + 13 * length events + 1
events_len inputs few later [] h = omega arith
events_len inputs few later (e ∷ events) h =
    let first = event_len inputs few e h.0 in
    let rest = events_len inputs few true events h.1 in
    let all = item_len later (event_data inputs e) (items_of (map (event_data inputs) events)) _ _ first rest in
    omega (arith, all)

-- ---- inputs

named_len : (input : List ℕ × PortType) → IsNamed input → length (compact_text (input_data input)) ≤ 26120
named_len input h =
    let short : length input.0 ≤ 255 = short_name input.0 (and_right (nat_le 1 (length input.0)) _ (and_left (nat_le 1 (length input.0) && nat_le (length input.0) 255) _ h.0)) in
    let type = h.1.short in
    let name = quoted_len input.0 in
    let text = quoted_len (type_text input.1) in
    let behind = length-append (quoted (type_text input.1)) (93 ∷ []) in
    let all = length-append (quoted input.0) (44 ∷ (quoted (type_text input.1) ++ 93 ∷ [])) in
    omega (arith, short, type, name, text, behind, all) where
      short_name : (name : List ℕ) → nat_le (length name) 255 ≡ true → length name ≤ 255
      short_name name e = grind (arith, e)

inputs_len : (later : Bool) (inputs : Inputs) → Every IsNamed inputs → length (items_text later (items_of (map input_data inputs))) ≤ 26121 * length inputs + 1
inputs_len later [] h = omega arith
inputs_len later (input ∷ inputs) h =
    let all = item_len later (input_data input) (items_of (map input_data inputs)) _ _ (named_len input h.0) (inputs_len true inputs h.1) in
    omega (arith, all)

-- ---- the whole

pub recorded_named : (events : List Event) → Every IsRecorded events → Every (OfInput IsNamed) events
recorded_named [] h = tt
recorded_named (event.Deliver number ∷ events) h = (tt, recorded_named events h.1)
recorded_named (event.Input name port value ∷ events) h = (h.0.0, recorded_named events h.1)

module _ (cursor : ℕ) (events inputs : Items) (n m : ℕ) (digits : length (decimal cursor) ≤ 7) (h : length (items_text false events) ≤ n) (k : length (items_text false inputs) ≤ m) where
  one_digit : length (decimal 1) ≤ 1
  one_digit = length-decimal-le 1 1 (omega arith) (omega arith) (omega arith)

  abbrev version : Members
  version = member (codes "version") (json.number (unsigned 1)) no_members

  abbrev inputs_and : Members
  inputs_and = member (codes "inputs") (array inputs) version

  abbrev format : Members
  format = member (codes "format") (json.string (codes "reactor-session")) inputs_and

  abbrev events_and : Members
  events_and = member (codes "events") (array events) format

  list_len : (ds : Items) (most : ℕ) → length (items_text false ds) ≤ most → length (compact_text (array ds)) ≤ suc most
  list_len ds most l = omega (arith, l)

  members_len : length (members_text false (member (codes "cursor") (json.number (unsigned cursor)) events_and)) ≤ 400 + n + m
  members_len =
      let last = member_len true (codes "version") (json.number (unsigned 1)) no_members 1 1 one_digit (omega arith) in
      let own = member_len true (codes "inputs") (array inputs) version (suc m) _ (list_len inputs m k) last in
      let name = member_len true (codes "format") (json.string (codes "reactor-session")) inputs_and _ _ (quoted_len (codes "reactor-session")) own in
      let list = member_len true (codes "events") (array events) format (suc n) _ (list_len events n h) name in
      let all = member_len false (codes "cursor") (json.number (unsigned cursor)) events_and 7 _ digits list in
      omega (arith, all)

pub always_short : (cursor : ℕ) (events : List Event) → Fits cursor events → length (inputs_of events) ≤ spec.max_inputs → length events ≤ spec.max_events
    → printed_size events ≤ spec.max_printed → length (session_text cursor events) ≤ spec.max_bytes
unfolding session_text
always_short cursor events fits few many printed =
    let recorded = every IsRecorded events fits.recorded in
    let named = used_all IsNamed [] events (recorded_named events recorded) tt in
    let within = fits.within in
    let digits = number_len cursor (omega (arith, within, many)) in
    let inside = events_len (inputs_of events) few false events recorded in
    let inputs = inputs_len false (inputs_of events) named in
    let all = members_len cursor (items_of (map (event_data (inputs_of events)) events)) (items_of (map input_data (inputs_of events))) _ _ digits inside inputs in
    omega (arith, all, few, many, printed)
