-- The forms as functions of data. Inner matter: what they are for is said in `Form`.
use Rattle.std.specs.Prelude.{◌≡◌, ◌==◌, ◌&&◌, ℕ, Bool, true, false, if◌then◌else◌, List, codes, Option, Some, None, option_map, option_and_then}
use Rattle.std.specs.Str.{bytes_eq}
use Rattle.serde_json.specs.Data.{Data, Items, item, no_items, Members, member, no_members}
use Rattle.serde_json.specs.Find.{as_number, as_u64, as_str, as_array, as_object}

abbrev pub number_in : Data → Option ℕ
number_in d = option_and_then as_u64 (as_number d)

-- this, where no item is left
abbrev pub at_end : {A : Type 0} → Items → Option A → Option A
at_end no_items found = found
at_end (item d ds) found = None

abbrev pub number_alone : Items → Option ℕ
number_alone no_items = None
number_alone (item d ds) = at_end ds (number_in d)

abbrev pub text_alone : Items → Option (List ℕ)
text_alone no_items = None
text_alone (item d ds) = at_end ds (as_str d)

abbrev pub paired : {A B : Type 0} → Option A → Option B → Option (A × B)
paired None second = None
paired (Some a) None = None
paired (Some a) (Some b) = Some (a, b)

abbrev pub number_and_text : Items → Option (ℕ × List ℕ)
number_and_text no_items = None
number_and_text (item d ds) = paired (number_in d) (text_alone ds)

abbrev pub two_texts : Items → Option (List ℕ × List ℕ)
two_texts no_items = None
two_texts (item d ds) = paired (as_str d) (text_alone ds)

abbrev pub delivery_in : Data → Option ℕ
delivery_in d = option_and_then number_alone (as_array d)

abbrev pub input_in : Data → Option (ℕ × List ℕ)
input_in d = option_and_then number_and_text (as_array d)

abbrev pub named_in : Data → Option (List ℕ × List ℕ)
named_in d = option_and_then two_texts (as_array d)

-- the place of an input that an event names, if it names one
abbrev pub place_in : Data → Option ℕ
place_in d = option_map (λ pair. pair.0) (input_in d)

-- ---- the object, member by member

-- the value of the first member, where it has this key, and the members behind it
abbrev pub taken : List ℕ → Members → Option (Data × Members)
taken key no_members = None
taken key (member own d ms) = if bytes_eq own key then Some (d, ms) else None

-- what the first member has, read by f
abbrev pub taken_as : {A : Type 0} → (Data → Option A) → List ℕ → Members → Option (A × Members)
taken_as f key ms = option_and_then (λ t. option_map (λ a. (a, t.1)) (f t.0)) (taken key ms)

abbrev pub is_end : Members → Bool
is_end no_members = true
is_end (member key d ms) = false

-- the cursor, the events and the inputs
abbrev pub Parts : Type 0
Parts = ℕ × (Items × Items)

-- what was read, and what is left
abbrev pub then_read : {A B : Type 0} → Option (A × Members) → (A → Members → Option B) → Option B
then_read None f = None
then_read (Some (a, ms)) f = f a ms

-- the parts, where the format and the version are the ones, and nothing is left
abbrev pub where_so : ℕ → Items → List ℕ → Items → ℕ → Members → Option Parts
where_so cursor events format inputs version left =
    if bytes_eq format (codes "reactor-session") && version == 1 && is_end left then Some (cursor, (events, inputs)) else None

unfoldable pub parts_in : Members → Option Parts
parts_in members =
    then_read (taken_as number_in (codes "cursor") members) (λ cursor left.
    then_read (taken_as as_array (codes "events") left) (λ events left.
    then_read (taken_as as_str (codes "format") left) (λ format left.
    then_read (taken_as as_array (codes "inputs") left) (λ inputs left.
    then_read (taken_as number_in (codes "version") left) (λ version left.
    where_so cursor events format inputs version left)))))

abbrev pub sheet_in : Data → Option Parts
sheet_in d = option_and_then parts_in (as_object d)

-- ---- for private contracts: what a call gave and left is what is read

abbrev pub Reads : {A B : Type 0} → (B → A) → Option (A × Members) → Option B → Members → Type 0
Reads seen read None left = read ≡ None
Reads seen read (Some given) left = read ≡ Some (seen given, left)
